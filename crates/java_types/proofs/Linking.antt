-- Numbers by keys, one number more.
use Rattle.std.proofs.Common.{◌≡◌, ◌+◌, ◌-◌, ◌<◌, ℕ, suc, true, false, cond, List, [], ◌∷◌, ◌++◌, Option, Some, None, length, get_or, inl, inr, sym, ap, ◌∙◌, subst, arith, true≢false}
use Rattle.std.specs.Prelude.{slice_get}
use Rattle.std.specs.Option.{option_and_then, option_map_or}
use Rattle.std.specs.List.{position_from}
use Rattle.std.proofs.lemmas.Bool.{eqb-true, cases_lt}
use Rattle.std.proofs.lemmas.List.{drop_all, length_push}
use Rattle.std.proofs.lemmas.Option.{get_or_from_slice_get, slice_get_past, slice_get_within}
use Rattle.java_model.proofs.DeclaredLaws.{in-front, behind}
use Rattle.java_types.specs.Tables.{Keys, has_key, is_keyed, first_from, AreLinked}
use Rattle.java_types.proofs.Seeking.{keyed_at, first_at}

key_is : (k : ℕ) (key : Option ℕ) → has_key k key ≡ true → key ≡ Some k
key_is k None e = absurd (true≢false (sym e))
key_is k (Some j) e = ap Some (sym (eqb-true k j e))

pub none_linked : (keys : Keys) (first : ℕ → Option ℕ) (next : List (Option ℕ)) → length next ≡ 0 → ((k : ℕ) → first k ≡ None) → AreLinked keys (length keys) first next
none_linked keys first next many none = record {
  many = omega (arith, many);
  firsts = λ k. none k ∙ sym (ap (position_from (has_key k) (length keys)) (drop_all (length keys) keys (omega arith)));
  linked = λ k n h below e. absurd (omega (arith, h, below));
}

pushed_last : (next : List (Option ℕ)) (found : Option ℕ) (n : ℕ) → n ≡ length next → slice_get (next ++ found ∷ []) n ≡ Some found
pushed_last next found n e =
    let last : n ≡ length next + 0 = omega (arith, e) in ap (slice_get (next ++ found ∷ [])) last ∙ behind next (found ∷ []) 0

pub linked_next : (keys : Keys) (i : ℕ) (key found : Option ℕ) (first first' : ℕ → Option ℕ) (next next' : List (Option ℕ))
    → slice_get keys i ≡ Some key → AreLinked keys (suc i) first next → found ≡ option_and_then first key
    → next' ≡ next ++ found ∷ [] → ((k : ℕ) → first' k ≡ cond (has_key k key) (Some i) (first k)) → AreLinked keys i first' next'
linked_next keys i key found first first' next next' at so is pushed noted =
    let within : i < length keys = slice_get_within keys i key at in
    let many = so.many in
    record {
      many = let long = ap length pushed ∙ length_push next found in omega (arith, many, long);
      firsts = λ k.
          noted k ∙ ap (cond (has_key k key) (Some i)) (so.firsts k) ∙ ap (λ b. cond b (Some i) (first_from keys k (suc i))) (sym (keyed_at keys k i key at))
          ∙ sym (first_at keys k i within);
      linked = λ k n h below keyed. ap (λ xs. slice_get xs (length keys - suc n)) pushed
          ∙ elim (cases_lt i n) as (λ _. slice_get (next ++ found ∷ []) (length keys - suc n) ≡ Some (first_from keys k (suc n))) [
            | inl lt ↦ in-front next (found ∷ []) (length keys - suc n) (first_from keys k (suc n)) (so.linked k n lt below keyed)
            | inr le ↦
                let same : n ≡ i = omega (arith, h, le) in
                let own : has_key k key ≡ true = sym (keyed_at keys k i key at) ∙ ap (is_keyed keys k) (sym same) ∙ keyed in
                pushed_last next found (length keys - suc n) (omega (arith, many, same))
                ∙ ap Some (is ∙ ap (option_and_then first) (key_is k key own) ∙ so.firsts k ∙ ap (λ j. first_from keys k (suc j)) (sym same))
          ];
    }

-- ---- the number after another

keyed_within : (keys : Keys) (k n : ℕ) → is_keyed keys k n ≡ true → n < length keys
keyed_within keys k n keyed = elim (cases_lt n (length keys)) as (λ _. n < length keys) [
  | inl lt ↦ lt
  | inr le ↦ absurd (true≢false (sym keyed ∙ ap (λ o. option_map_or (has_key k) o false) (slice_get_past keys n le)))
]

next_kept : (keys : Keys) (k n count : ℕ) (first : ℕ → Option ℕ) (next seen : List (Option ℕ)) → AreLinked keys 0 first next → is_keyed keys k n ≡ true → seen ≡ next
    → count ≡ length keys → get_or seen (count - 1 - n) None ≡ first_from keys k (n + 1)
next_kept keys k n count first next seen so keyed same all =
    let within = keyed_within keys k n keyed in
    let place : count - 1 - n ≡ length keys - suc n = omega (arith, all) in
    let one : suc n ≡ n + 1 = omega arith in
    ap (λ xs. get_or xs (count - 1 - n) None) same ∙ ap (λ j. get_or next j None) place
    ∙ get_or_from_slice_get next (length keys - suc n) (first_from keys k (suc n)) None (so.linked k n (omega arith) within keyed)
    ∙ ap (first_from keys k) one

pub next_seen : (keys now : Keys) (k n count : ℕ) (first : ℕ → Option ℕ) (next seen : List (Option ℕ)) → keys ≡ now → AreLinked keys 0 first next → is_keyed now k n ≡ true
    → seen ≡ next → count ≡ length keys → get_or seen (count - 1 - n) None ≡ first_from now k (n + 1)
next_seen keys now k n count first next seen are so keyed same all =
    next_kept now k n count first next seen (subst (λ ks. AreLinked ks 0 first next) are so) keyed same (all ∙ ap length are)
