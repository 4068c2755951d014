-- What is in scope, one bound more or less.
use Rattle.std.proofs.Common.{◌≡◌, ◌-◌, ◌<◌, ◌≤◌, ℕ, zero, suc, Bool, true, false, cond, List, [], ◌∷◌, ◌++◌, Option, Some, None, map, nat_eq, length, take, get_or, inl, inr, refl, sym, ap, ◌∙◌, subst, arith, true≢false, bytes_eq}
use Rattle.std.specs.Prelude.{slice_get, IsSome, MatchOption}
use Rattle.std.specs.Option.{option_and_then, option_map_or}
use Rattle.std.proofs.lemmas.Bool.{cases_lt, eqb-true, eq-eqb}
use Rattle.std.proofs.Math.Seq.{take-append_seam}
use Rattle.std.proofs.lemmas.List.{length-map, length-take, length_push, map-append, take-take, take_all}
use Rattle.std.proofs.lemmas.Option.{none-some, same_Some, slice_get_within, slice_get_read}
use Rattle.std.proofs.lemmas.Slice.Eq.{bytes_eq-Decides}
use Rattle.java_tree.specs.declared.bound.Bound.{Bound}
use Rattle.java_tree.specs.declared.bound.Bound.TheVariants as bounds
use Rattle.java_model.specs.Names.Lists.{Identifier}
use Rattle.java_model.proofs.DeclaredLaws.{in-front}
use Rattle.java_scope.specs.Linked.{bound_in, is_around, is_body, is_variable, key_of, name_key, has_key, upto, AreLinked, IsLast, IsLinked, Passes, Skips}
use Rattle.java_scope.specs.declared.entry.Entry.{Entry}

-- ---- places

-- a place of a longer list is one of the list, or the last
within_or_last : {X : Type 0} (xs : List X) (x y : X) (i : ℕ) → slice_get (xs ++ x ∷ []) i ≡ Some y → i < length xs → slice_get xs i ≡ Some y
within_or_last [] x y i at h = absurd (omega (arith, h))
within_or_last (z ∷ xs) x y zero at h = at
within_or_last (z ∷ xs) x y (suc i) at h = within_or_last xs x y i at (omega (arith, h))

at_last : {X : Type 0} (xs : List X) (x : X) → slice_get (xs ++ x ∷ []) (length xs) ≡ Some x
at_last [] x = refl
at_last (z ∷ xs) x = at_last xs x

pushed_bounds : (es : List Entry) (e : Entry) → map bound_in (es ++ e ∷ []) ≡ map bound_in es ++ e.bound ∷ []
pushed_bounds es e = map-append bound_in es (e ∷ [])

many : (es : List Entry) → length (map bound_in es) ≡ length es
many es = length-map es bound_in

bound_at : (es : List Entry) (p : ℕ) (e : Entry) → slice_get es p ≡ Some e → slice_get (map bound_in es) p ≡ Some e.bound
bound_at [] p e at = absurd (none-some e at)
bound_at (f ∷ es) zero e at = ap (λ (x : Entry). Some x.bound) (same_Some f e at)
bound_at (f ∷ es) (suc p) e at = bound_at es p e at

-- ---- what is skipped

pub itself : (test : Bound → Bool) (bs : List Bound) (n : ℕ) → Skips test bs (suc n) (Some n)
itself test bs n = record { within = omega arith; none = λ j b low high at. absurd (omega (arith, low, high)) }

pub one_more : (test : Bound → Bool) (bs : List Bound) (n : ℕ) (b : Bound) (next : Option ℕ) → slice_get bs n ≡ Some b → test b ≡ false → Skips test bs n next → Skips test bs (suc n) next
one_more test bs n b next at fails skips = let w = skips.within in record {
  within = omega (arith, w);
  none = λ j c low high here. elim (cases_lt j n) as (λ _. test c ≡ false) [
    | inl lt ↦ skips.none j c low lt here
    | inr le ↦ let e : j ≡ n = omega (arith, le, high) in ap test (same_Some c b (sym here ∙ ap (slice_get bs) e ∙ at)) ∙ fails
  ];
}

-- two stretches, one after the other
pub both : (test : Bound → Bool) (bs : List Bound) (n p : ℕ) (b : Bound) (next : Option ℕ) → Skips test bs n (Some p) → slice_get bs p ≡ Some b → test b ≡ false → Skips test bs p next → Skips test bs n next
both test bs n p b next after at fails before = let v = after.within in let w = before.within in record {
  within = omega (arith, v, w);
  none = λ j c low high here. elim (cases_lt j (suc p)) as (λ _. test c ≡ false) [
    | inl lt ↦ (one_more test bs p b next at fails before).none j c low lt here
    | inr le ↦ after.none j c le high here
  ];
}

pub weaker : (test other : Bound → Bool) (bs : List Bound) (n : ℕ) (next : Option ℕ) → ((b : Bound) → test b ≡ false → other b ≡ false) → Skips test bs n next → Skips other bs n next
weaker test other bs n next says skips = record { within = skips.within; none = λ j b low high at. says b (skips.none j b low high at) }

-- with a bound more after them
longer : (test : Bound → Bool) (bs : List Bound) (b : Bound) (n : ℕ) (next : Option ℕ) → n ≤ length bs → Skips test bs n next → Skips test (bs ++ b ∷ []) n next
longer test bs b n next h skips = record {
  within = skips.within;
  none = λ j c low high at. skips.none j c low high (within_or_last bs b c j at (omega (arith, h, high)));
}

shorter : (test : Bound → Bool) (bs : List Bound) (b : Bound) (n : ℕ) (next : Option ℕ) → Skips test (bs ++ b ∷ []) n next → Skips test bs n next
shorter test bs b n next skips = record {
  within = skips.within;
  none = λ j c low high at. skips.none j c low high (in-front bs (b ∷ []) j c at);
}

longer_last : (test : Bound → Bool) (bs : List Bound) (b : Bound) (n : ℕ) (next : Option ℕ) → n ≤ length bs → IsLast test bs n next → IsLast test (bs ++ b ∷ []) n next
longer_last test bs b n next h last = let w = last.skips.within in record {
  skips = longer test bs b n next h last.skips;
  passes = λ p c e at. let s = ap upto e in last.passes p c e (within_or_last bs b c p at (omega (arith, h, w, s)));
}

shorter_last : (test : Bound → Bool) (bs : List Bound) (b : Bound) (n : ℕ) (next : Option ℕ) → IsLast test (bs ++ b ∷ []) n next → IsLast test bs n next
shorter_last test bs b n next last = record {
  skips = shorter test bs b n next last.skips;
  passes = λ p c e at. last.passes p c e (in-front bs (b ∷ []) p c at);
}

longer_link : (bs : List Bound) (b : Bound) (p : ℕ) (e : Entry) → IsLinked bs p e → IsLinked (bs ++ b ∷ []) p e
longer_link bs b p e is =
    let w = slice_get_within bs p e.bound is.at in let h : p ≤ length bs = omega (arith, w) in
    record {
      at = in-front bs (b ∷ []) p e.bound is.at;
      before = λ k has. longer_last (has_key k) bs b p e.before h (is.before k has);
      body = longer is_body bs b p e.body h is.body;
      outer = longer is_around bs b p e.outer h is.outer;
    }

shorter_link : (bs : List Bound) (b : Bound) (p : ℕ) (e : Entry) → p < length bs → IsLinked (bs ++ b ∷ []) p e → IsLinked bs p e
shorter_link bs b p e h is = record {
  at = within_or_last bs b e.bound p is.at h;
  before = λ k has. shorter_last (has_key k) bs b p e.before (is.before k has);
  body = shorter is_body bs b p e.body is.body;
  outer = shorter is_around bs b p e.outer is.outer;
}

-- ---- none, one more, one less

pub none_linked : (last : ℕ → Option ℕ) → ((k : ℕ) → last k ≡ None) → AreLinked [] last
none_linked last none = record {
  links = λ p e at. absurd (none-some e at);
  lasts = λ k. record {
    skips = record { within = let z = ap upto (none k) in omega (arith, z); none = λ j b low high at. absurd (omega (arith, high)) };
    passes = λ p b e at. absurd (none-some b at);
  };
}

pub same_linked : (es fs : List Entry) (last last' : ℕ → Option ℕ) → es ≡ fs → ((k : ℕ) → last' k ≡ last k) → AreLinked fs last → AreLinked es last'
same_linked es fs last last' same alike linked = subst (λ xs. AreLinked xs last') (sym same) (record {
  links = linked.links;
  lasts = λ k. subst (IsLast (has_key k) (map bound_in fs) (length fs)) (sym (alike k)) (linked.lasts k);
})

key_is : (k : ℕ) (b : Bound) → has_key k b ≡ true → key_of b ≡ Some k
key_is k b h = by (key_of b) h
  where
    by : (o : Option ℕ) → option_map_or (nat_eq k) o false ≡ true → o ≡ Some k
    by None e = absurd (true≢false (sym e))
    by (Some j) e = ap Some (sym (eqb-true k j e))

chosen : (A : Type 0) (c : Bool) (x y z : A) → z ≡ cond c x y → c ≡ true → z ≡ x
chosen A c x y z e t = e ∙ ap (λ b. cond b x y) t

passed : (A : Type 0) (c : Bool) (x y z : A) → z ≡ cond c x y → c ≡ false → z ≡ y
passed A c x y z e f = e ∙ ap (λ b. cond b x y) f

true_or_false : (c : Bool) (P : Type 0) → (c ≡ true → P) → (c ≡ false → P) → P
true_or_false true P f g = f refl
true_or_false false P f g = g refl

module _ (es : List Entry) (e : Entry) (last last' : ℕ → Option ℕ) where
  abbrev bs : List Bound
  bs = map bound_in es

  last_bound : slice_get (bs ++ e.bound ∷ []) (length es) ≡ Some e.bound
  last_bound = ap (slice_get (bs ++ e.bound ∷ [])) (sym (many es)) ∙ at_last bs e.bound

  pub push_linked : AreLinked es last → e.before ≡ option_and_then last (key_of e.bound) → Skips is_body (map bound_in es) (length es) e.body → Skips is_around (map bound_in es) (length es) e.outer
      → ((k : ℕ) → last' k ≡ cond (has_key k e.bound) (Some (length es)) (last k)) → AreLinked (es ++ e ∷ []) last'
  push_linked linked before body outer noted = record {
    links = λ p f at. subst (λ xs. IsLinked xs p f) (sym (pushed_bounds es e)) (elim (cases_lt p (length es)) as (λ _. IsLinked (bs ++ e.bound ∷ []) p f) [
      | inl lt ↦ longer_link bs e.bound p f (linked.links p f (within_or_last es e f p at lt))
      | inr le ↦
          let h = slice_get_within (es ++ e ∷ []) p f at in let l = length_push es e in
          let here : p ≡ length es = omega (arith, le, h, l) in
          let is : e ≡ f = same_Some e f (sym (at_last es e) ∙ ap (slice_get (es ++ e ∷ [])) (sym here) ∙ at) in
          subst (λ n. IsLinked (bs ++ e.bound ∷ []) n f) (sym here) (subst (IsLinked (bs ++ e.bound ∷ []) (length es)) is itself_linked)
    ]);
    lasts = λ k. subst (λ xs. IsLast (has_key k) xs (length (es ++ e ∷ [])) (last' k)) (sym (pushed_bounds es e))
        (subst (λ n. IsLast (has_key k) (bs ++ e.bound ∷ []) n (last' k)) (sym (let l = length_push es e in let g : length (es ++ e ∷ []) ≡ suc (length es) = omega (arith, l) in g)) (last_linked k));
  }
    where
      whole : length es ≤ length bs
      whole = let l = many es in omega (arith, l)

      itself_linked : IsLinked (bs ++ e.bound ∷ []) (length es) e
      itself_linked = record {
        at = last_bound;
        before = λ k has. longer_last (has_key k) bs e.bound (length es) e.before whole
            (subst (IsLast (has_key k) bs (length es)) (sym (before ∙ ap (option_and_then last) (key_is k e.bound has))) (linked.lasts k));
        body = longer is_body bs e.bound (length es) e.body whole body;
        outer = longer is_around bs e.bound (length es) e.outer whole outer;
      }

      last_linked : (k : ℕ) → IsLast (has_key k) (bs ++ e.bound ∷ []) (suc (length es)) (last' k)
      last_linked k = true_or_false (has_key k e.bound) (IsLast (has_key k) (bs ++ e.bound ∷ []) (suc (length es)) (last' k))
          (λ t. subst (IsLast (has_key k) (bs ++ e.bound ∷ []) (suc (length es))) (sym (chosen (Option ℕ) (has_key k e.bound) (Some (length es)) (last k) (last' k) (noted k) t)) (record {
            skips = itself (has_key k) (bs ++ e.bound ∷ []) (length es);
            passes = λ p b q at.
                let s = ap upto q in let here : p ≡ length es = omega (arith, s) in
                ap (has_key k) (same_Some b e.bound (sym at ∙ ap (slice_get (bs ++ e.bound ∷ [])) here ∙ last_bound)) ∙ t;
          }))
          (λ f. subst (IsLast (has_key k) (bs ++ e.bound ∷ []) (suc (length es))) (sym (passed (Option ℕ) (has_key k e.bound) (Some (length es)) (last k) (last' k) (noted k) f))
          (let old = longer_last (has_key k) bs e.bound (length es) (last k) whole (linked.lasts k) in record {
            skips = one_more (has_key k) (bs ++ e.bound ∷ []) (length es) e.bound (last k) last_bound f old.skips;
            passes = old.passes;
          }))

  -- the last of all is the last of its key
  pub is_noted : AreLinked (es ++ e ∷ []) last → (k : ℕ) → has_key k e.bound ≡ true → last k ≡ Some (length es)
  is_noted linked k has = by (last k) refl
    where
      at : slice_get (map bound_in (es ++ e ∷ [])) (length es) ≡ Some e.bound
      at = ap (λ xs. slice_get xs (length es)) (pushed_bounds es e) ∙ last_bound

      by : (o : Option ℕ) → last k ≡ o → last k ≡ Some (length es)
      by None q = absurd (true≢false (sym has ∙ (linked.lasts k).skips.none (length es) e.bound
          (let z = ap upto q in omega (arith, z)) (let l = length_push es e in omega (arith, l)) at))
      by (Some n) q = q ∙ ap Some (elim (cases_lt n (length es)) as (λ _. n ≡ length es) [
        | inl lt ↦ absurd (true≢false (sym has ∙ (linked.lasts k).skips.none (length es) e.bound
            (let z = ap upto q in omega (arith, z, lt)) (let l = length_push es e in omega (arith, l)) at))
        | inr le ↦ let w = (linked.lasts k).skips.within in let z = ap upto q in let l = length_push es e in omega (arith, le, w, z, l)
      ])

  pub pop_linked : AreLinked (es ++ e ∷ []) last → ((k : ℕ) → last' k ≡ cond (has_key k e.bound) e.before (last k)) → AreLinked es last'
  pop_linked linked taken = record {
    links = λ p f at. let h = slice_get_within es p f at in let l = many es in
        shorter_link bs e.bound p f (omega (arith, h, l)) (subst (λ xs. IsLinked xs p f) (pushed_bounds es e) (linked.links p f (in-front es (e ∷ []) p f at)));
    lasts = λ k. true_or_false (has_key k e.bound) (IsLast (has_key k) bs (length es) (last' k))
        (λ t. subst (IsLast (has_key k) bs (length es)) (sym (chosen (Option ℕ) (has_key k e.bound) e.before (last k) (last' k) (taken k) t))
        (shorter_last (has_key k) bs e.bound (length es) e.before
        (subst (λ xs. IsLast (has_key k) xs (length es) e.before) (pushed_bounds es e) ((linked.links (length es) e (at_last es e)).before k t))))
        (λ f. subst (IsLast (has_key k) bs (length es)) (sym (passed (Option ℕ) (has_key k e.bound) e.before (last k) (last' k) (taken k) f))
        (shorter_last (has_key k) bs e.bound (length es) (last k) (below k f)));
  }
    where
      old : (k : ℕ) → IsLast (has_key k) (bs ++ e.bound ∷ []) (length (es ++ e ∷ [])) (last k)
      old k = subst (λ xs. IsLast (has_key k) xs (length (es ++ e ∷ [])) (last k)) (pushed_bounds es e) (linked.lasts k)

      low : (k : ℕ) → has_key k e.bound ≡ false → upto (last k) ≤ length es
      low k f = by (last k) refl
        where
          by : (o : Option ℕ) → last k ≡ o → upto (last k) ≤ length es
          by None q = let z = ap upto q in omega (arith, z)
          by (Some n) q = elim (cases_lt n (length es)) as (λ _. upto (last k) ≤ length es) [
            | inl lt ↦ let z = ap upto q in omega (arith, z, lt)
            | inr le ↦
                let w = (old k).skips.within in let z = ap upto q in let l = length_push es e in
                let here : length es ≡ n = omega (arith, le, w, z, l) in
                absurd (true≢false (sym ((old k).passes n e.bound q (ap (slice_get (bs ++ e.bound ∷ [])) (sym here) ∙ last_bound)) ∙ f))
          ]

      below : (k : ℕ) → has_key k e.bound ≡ false → IsLast (has_key k) (bs ++ e.bound ∷ []) (length es) (last k)
      below k f = record {
        skips = record { within = low k f; none = λ j b lo hi at. (old k).skips.none j b lo (let l = length_push es e in omega (arith, hi, l)) at };
        passes = (old k).passes;
      }

-- ---- what is known of a scope, by the bounds that it shows

pub entry_linked : (es seen : List Entry) (last : ℕ → Option ℕ) (now : List Bound) (p : ℕ) (e : Entry) → map bound_in es ≡ now → AreLinked es last → seen ≡ es → p < length now
    → e ≡ get_or seen p e → IsLinked now p e
entry_linked es seen last now p e view linked same h is =
    let l = many es in let n = ap length view in
    subst (λ xs. IsLinked xs p e) view (linked.links p e (slice_get_read es (length es) p e refl (omega (arith, l, n, h)) (is ∙ ap (λ xs. get_or xs p e) same)))

pub last_known : (es : List Entry) (last : ℕ → Option ℕ) (now : List Bound) (k : ℕ) (next : Option ℕ) → map bound_in es ≡ now → AreLinked es last → next ≡ last k
    → IsLast (has_key k) now (length now) next
last_known es last now k next view linked is =
    subst (λ o. IsLast (has_key k) now (length now) o) (sym is)
    (subst (λ xs. IsLast (has_key k) xs (length xs) (last k)) view
    (subst (λ n. IsLast (has_key k) (map bound_in es) n (last k)) (sym (many es)) (linked.lasts k)))

-- the link of the last bound, or that bound
pub from_last : (test : Bound → Bool) (now : List Bound) (n p : ℕ) (b : Bound) → n ≡ length now → p ≡ n - 1 → 1 ≤ n → test b ≡ true → Skips test now (length now) (Some p)
from_last test now n p b all is some t =
    let e : length now ≡ suc p = omega (arith, all, is, some) in
    subst (λ m. Skips test now m (Some p)) (sym e) (itself test now p)

pub before_last : (test : Bound → Bool) (now : List Bound) (n p : ℕ) (b : Bound) (next : Option ℕ) → n ≡ length now → p ≡ n - 1 → 1 ≤ n → slice_get now p ≡ Some b → test b ≡ false
    → Skips test now p next → Skips test now (length now) next
before_last test now n p b next all is some at fails skips =
    let e : length now ≡ suc p = omega (arith, all, is, some) in
    subst (λ m. Skips test now m next) (sym e) (one_more test now p b next at fails skips)

pub nothing_skipped : (test : Bound → Bool) (now : List Bound) (n : ℕ) → n ≡ length now → n < 1 → Skips test now (length now) None
nothing_skipped test now n all none = record { within = omega arith; none = λ j b low high at. absurd (omega (arith, all, none, high)) }

-- ---- the variable of a name

other_name : (name : Identifier) (b : Bound) → has_key (name_key name) b ≡ false → is_variable name b ≡ false
other_name name (bounds.Variable n t) e = by (bytes_eq name n) refl
  where
    by : (c : Bool) → bytes_eq name n ≡ c → bytes_eq name n ≡ false
    by true q = absurd (true≢false (sym (eq-eqb (name_key name) (name_key n) (ap name_key ((bytes_eq-Decides name n).0 q))) ∙ e))
    by false q = q
other_name name (bounds.Class t) e = refl
other_name name (bounds.Members t) e = refl
other_name name (bounds.Arguments t) e = refl

-- the variables of a name up to a place whose key is that of the name
pub record Follows (name : Identifier) (bs : List Bound) (next : Option ℕ) : Type 0 where
  pub skips : Skips (is_variable name) bs (length bs) next
  pub passes : Passes (has_key (name_key name)) bs next

pub follows : (name : Identifier) (bs : List Bound) (next : Option ℕ) → IsLast (has_key (name_key name)) bs (length bs) next → Follows name bs next
follows name bs next last = record { skips = weaker (has_key (name_key name)) (is_variable name) bs (length bs) next (other_name name) last.skips; passes = last.passes }

module _ (name : Identifier) (bs : List Bound) (next : Option ℕ) (so : Follows name bs next) (p : ℕ) (is : next ≡ Some p) where
  pub place_within : p < length bs
  place_within = let w = so.skips.within in let s = ap upto is in omega (arith, w, s)

  here : Skips (is_variable name) bs (length bs) (Some p)
  here = subst (Skips (is_variable name) bs (length bs)) is so.skips

  pub found : (b : Bound) → slice_get bs p ≡ Some b → is_variable name b ≡ true → IsLast (is_variable name) bs (length bs) (Some p)
  found b at t = record { skips = here; passes = λ q c e got. let same : p ≡ q = same_Some p q e in ap (is_variable name) (same_Some c b (sym got ∙ ap (slice_get bs) (sym same) ∙ at)) ∙ t }

  module _ (e : Entry) (linked : IsLinked bs p e) (fails : is_variable name e.bound ≡ false) where
    before : IsLast (has_key (name_key name)) bs p e.before
    before = linked.before (name_key name) (so.passes p e.bound is linked.at)

    pub follows_on : Follows name bs e.before
    follows_on = record {
      skips = both (is_variable name) bs (length bs) p e.bound e.before here linked.at fails (weaker (has_key (name_key name)) (is_variable name) bs p e.before (other_name name) before.skips);
      passes = before.passes;
    }

    pub follows_less : upto e.before < upto next
    follows_less = let w = before.skips.within in let s = ap upto is in omega (arith, w, s)

pub none_left : (name : Identifier) (bs : List Bound) (next : Option ℕ) → Follows name bs next → next ≡ None → IsLast (is_variable name) bs (length bs) None
none_left name bs next so none = record { skips = subst (Skips (is_variable name) bs (length bs)) none so.skips; passes = λ p b e at. absurd (none-some p e) }

-- ---- one bound more or less, as it is seen

pub pushes : (es after : List Entry) (last last' : ℕ → Option ℕ) (now : List Bound) (b : Bound) (key before body outer : Option ℕ) (place : ℕ)
    → map bound_in es ≡ now → AreLinked es last → key ≡ key_of b → before ≡ option_and_then last key → Skips is_body now (length now) body → Skips is_around now (length now) outer
    → place ≡ length es → after ≡ es ++ record { bound = b; before = before; body = body; outer = outer } ∷ []
    → ((k : ℕ) → last' k ≡ cond (option_map_or (nat_eq k) key false) (Some place) (last k)) → AreLinked after last'
pushes es after last last' now b key before body outer place view linked keyed is inner around here grown noted =
    let e : Entry = record { bound = b; before = before; body = body; outer = outer } in
    subst (λ xs. AreLinked xs last') (sym grown) (push_linked es e last last' linked (is ∙ ap (option_and_then last) keyed)
    (seen is_body body inner) (seen is_around outer around)
    (λ k. noted k ∙ ap (λ o. cond (option_map_or (nat_eq k) o false) (Some place) (last k)) keyed ∙ ap (λ n. cond (has_key k b) (Some n) (last k)) here))
  where
    seen : (test : Bound → Bool) (next : Option ℕ) → Skips test now (length now) next → Skips test (map bound_in es) (length es) next
    seen test next skips =
        subst (λ n. Skips test (map bound_in es) n next) (many es) (subst (λ xs. Skips test xs (length xs) next) (sym view) skips)

front : {X : Type 0} (now xs : List X) (x : X) → now ≡ xs ++ x ∷ [] → xs ≡ take (length now - 1) now
front now xs x e =
    let l = length_push xs x in let n = ap length e in
    let one : length now - 1 ≡ length xs = omega (arith, l, n) in
    sym (ap (λ ys. take (length now - 1) ys) e ∙ ap (λ m. take m (xs ++ x ∷ [])) one ∙ take-append_seam xs (x ∷ []))

abbrev pub Popped : List Entry → List Entry → Option Entry → Type 0
Popped old new r = MatchOption r ((old ≡ []) × (new ≡ [])) (λ e. old ≡ new ++ e ∷ [])

not_empty : {X : Type 0} (xs : List X) (x : X) → [] ≡ xs ++ x ∷ [] → ⊥
not_empty xs x e = let l = length_push xs x in let n = ap length e in omega (arith, l, n)

pub took_off : (r : Option Entry) (old new : List Entry) → Popped old new r → (es : List Entry) (e : Entry) → old ≡ es ++ e ∷ [] → new ≡ es
took_off None old new h es e is = absurd (not_empty es e (sym h.0 ∙ is))
took_off (Some f) old new h es e is = front old new f h ∙ sym (front old es e is)

pub popped_noted : (r : Option Entry) (old new : List Entry) (last : ℕ → Option ℕ) → Popped old new r → AreLinked old last
    → (e : Entry) → r ≡ Some e → (k : ℕ) → has_key k e.bound ≡ true → IsSome (last k)
popped_noted None old new last h linked e is k has = absurd (none-some e is)
popped_noted (Some f) old new last h linked e is k has =
    subst IsSome (sym (is_noted new f last last (subst (λ xs. AreLinked xs last) h linked) k (ap (λ (x : Entry). has_key k x.bound) (same_Some f e is) ∙ has))) refl

pub popped_linked : (r : Option Entry) (old new : List Entry) (last last' : ℕ → Option ℕ) → Popped old new r → AreLinked old last → (r ≡ None → (k : ℕ) → last' k ≡ last k)
    → ((e : Entry) → r ≡ Some e → (k : ℕ) → last' k ≡ cond (has_key k e.bound) e.before (last k)) → AreLinked new last'
popped_linked None old new last last' h linked none some = same_linked new old last last' (h.1 ∙ sym h.0) (none refl) linked
popped_linked (Some f) old new last last' h linked none some = pop_linked new f last last' (subst (λ xs. AreLinked xs last) h linked) (some f refl)

pub popped_view : (r : Option Entry) (old new : List Entry) (now : List Bound) → Popped old new r → map bound_in old ≡ now → map bound_in new ≡ take (length now - 1) now
popped_view None old new now h view =
    let empty : now ≡ [] = sym view ∙ ap (map bound_in) h.0 in
    ap (map bound_in) h.1 ∙ ap (λ xs. take (length xs - 1) xs) (sym empty)
popped_view (Some f) old new now h view = front now (map bound_in new) f.bound (sym view ∙ ap (map bound_in) h ∙ pushed_bounds new f)

pub cut_less : (now after whole : List Bound) (n : ℕ) → after ≡ take (length now - 1) now → n < length now → take n now ≡ take n whole → take n after ≡ take n whole
cut_less now after whole n e h so = ap (take n) e ∙ take-take n (length now - 1) now (omega (arith, h)) ∙ so

pub cut_smaller : (now after : List Bound) (n : ℕ) → after ≡ take (length now - 1) now → n < length now → length after < length now
cut_smaller now after n e h = let l = length-take (length now - 1) now in let a = ap length e in omega (arith, h, l, a)

pub cut_all : (now whole : List Bound) (n : ℕ) → length now ≤ n → take n now ≡ take n whole → now ≡ take n whole
cut_all now whole n h so = sym (take_all n now h) ∙ so
