-- The numbers that were found for a name are those of the rows with admitted keys.
use Rattle.std.proofs.Common.{◌≡◌, ℕ, zero, suc, ◌<◌, Bool, true, false, cond, List, [], ◌∷◌, length, get_or, drop, Result, Ok, Err, refl, sym, ap, subst, ◌∙◌, arith}
use Rattle.std.specs.Prelude.{◌&&◌, ◌||◌, ◌==◌, nat_lt, nat_le, filter, IfOk}
use Rattle.std.specs.Global.{Vec}
use Rattle.std.specs.List.{list_any}
use Rattle.std.proofs.lemmas.Bool.{ltb-true, eqb-true}
use Rattle.std.proofs.lemmas.List.Folds.{list_any-append}
use Rattle.java_tree.specs.declared.key.Category.{Category}
use Rattle.java_tree.specs.Keys.{is_before, is_word}
use Rattle.java_model.specs.IndexFile.Content.{Posting, rows_of, are_numbers_from, are_postings_after}
use Rattle.java_model.specs.IndexFile.Reading.{Content, postings_at, content_at}
use Rattle.java_model.proofs.IndexFile.Tests.{and_left, and_right}
use Rattle.disk_index.specs.Reads.{admits_word, noted_in, noted}
use Rattle.disk_index.specs.Named.{has}
use Rattle.disk_index.specs.Part.{Part, part_of, content_of, content_or_none, IsTable, numbers_from, answers_of}
use Rattle.disk_index.proofs.QueryRows.{all_rows, filter_same}

-- ---- numbers are those of entries

numbers_below : (range low : ℕ) (numbers : List ℕ) (k : ℕ) → are_numbers_from range low numbers ≡ true → has numbers k ≡ true → k < range
numbers_below range low [] k legal h = absurd cc
numbers_below range low (n ∷ numbers) k legal h =
    elim (n == k) as (λ b. (n == k) ≡ b → k < range) [
      | true ↦ λ t. omega (arith, eqb-true n k t, ltb-true n range (and_right (nat_le low n) (nat_lt n range) (and_left (nat_le low n && nat_lt n range) (are_numbers_from range (suc n) numbers) legal)))
      | false ↦ λ f. numbers_below range (suc n) numbers k (and_right (nat_le low n && nat_lt n range) (are_numbers_from range (suc n) numbers) legal) (sym (ap (λ (b : Bool). b || has numbers k) f) ∙ h)
    ] refl

word_below : (admitted : Category → List ℕ → Bool) (range : ℕ) (posting : Posting) (k : ℕ) → are_numbers_from range 0 posting.numbers ≡ true → has (noted_in admitted posting) k ≡ true → k < range
word_below admitted range posting k legal h =
    elim (admits_word admitted posting.word) as (λ b. admits_word admitted posting.word ≡ b → k < range) [
      | true ↦ λ t. numbers_below range 0 posting.numbers k legal (sym (ap (λ (b : Bool). has (cond b posting.numbers []) k) t) ∙ h)
      | false ↦ λ f. absurd (never (sym (ap (λ (b : Bool). has (cond b posting.numbers []) k) f) ∙ h))
    ] refl
  where
    never : false ≡ true → ⊥
    never e = cc

pub noted_below : (admitted : Category → List ℕ → Bool) (range : ℕ) (previous : List ℕ) (postings : List Posting) (k : ℕ) → are_postings_after range previous postings ≡ true → has (noted admitted postings) k ≡ true → k < range
noted_below admitted range previous [] k legal h = absurd cc
noted_below admitted range previous (posting ∷ postings) k legal h =
    let before = is_before previous posting.word in
    let key = is_word posting.word in
    let some = nat_le 1 (length posting.numbers) in
    let numbers = are_numbers_from range 0 posting.numbers in
    let l4 = and_left (before && key && some && numbers) (are_postings_after range posting.word postings) legal in
    let rest = and_right (before && key && some && numbers) (are_postings_after range posting.word postings) legal in
    elim (has (noted_in admitted posting) k) as (λ b. has (noted_in admitted posting) k ≡ b → k < range) [
      | true ↦ λ t. word_below admitted range posting k (and_right (before && key && some) numbers l4) t
      | false ↦ λ f. noted_below admitted range posting.word postings k rest
          (sym (list_any-append (λ n. n == k) (noted_in admitted posting) (noted admitted postings) ∙ ap (λ (b : Bool). b || has (noted admitted postings) k) f) ∙ h)
    ] refl

-- ---- the file of a part that has entries

record HasWords (bytes : List ℕ) (words range : ℕ) : Type 0 where
  content : Content
  is : content_of bytes ≡ content
  all : range ≡ length content.entries
  read : postings_at (length bytes) range (drop words bytes) ≡ Ok content.postings
  legal : are_postings_after range [] content.postings ≡ true

has_words : (part : Part) (bytes places : List ℕ) (words : ℕ) (live : List Bool) (range : ℕ) → part ≡ part_of bytes live → IsTable bytes places words live → range ≡ length part.entries → 0 < range → HasWords bytes words range
has_words part bytes places words live range view table range-is some = by_content (content_at bytes) refl
  where
    all : range ≡ length (content_of bytes).entries
    all = range-is ∙ ap (λ (p : Part). length p.entries) view

    by_content : (r : Result Content ℕ) → content_at bytes ≡ r → HasWords bytes words range
    by_content (Ok content) e =
        let held : content_of bytes ≡ content = ap content_or_none e in
        let long : range ≡ length content.entries = all ∙ ap (λ (c : Content). length c.entries) held in
        record {
          content = content;
          is = held;
          all = long;
          read = ap (λ (n : ℕ). postings_at (length bytes) n (drop words bytes)) long ∙ table.read content e;
          legal = ap (λ (n : ℕ). are_postings_after n [] content.postings) long ∙ subst (λ (c : Content). are_postings_after (length c.entries) [] c.postings ≡ true) held table.legal;
        }
    by_content (Err left) e = absurd (omega (arith, some, all, ap (λ (c : Content). length c.entries) (ap content_or_none e)))

-- what was found, whatever the words are
abbrev pub Found : (Category → List ℕ → Bool) → List ℕ → ℕ → ℕ → List ℕ → Type 0
Found admitted bytes words range hits =
    (postings : List Posting) → postings_at (length bytes) range (drop words bytes) ≡ Ok postings → are_postings_after range [] postings ≡ true → (k : ℕ) → has hits k ≡ has (noted admitted postings) k

pub hits_below : (admitted : Category → List ℕ → Bool) (part : Part) (bytes places : List ℕ) (words : ℕ) (live : List Bool) (range : ℕ) (hits : List ℕ) (k : ℕ) → part ≡ part_of bytes live → IsTable bytes places words live → range ≡ length part.entries → 0 < range
    → Found admitted bytes words range hits → has hits k ≡ true → k < length live
hits_below admitted part bytes places words live range hits k view table range-is some found h =
    let w = has_words part bytes places words live range view table range-is some in
    let long : length live ≡ range = table.long ∙ ap (λ (c : Content). length c.entries) w.is ∙ sym w.all in
    omega (arith, long, noted_below admitted range [] w.content.postings k w.legal (sym (found w.content.postings w.read w.legal k) ∙ h))

pub named_answered : {E : Type 0} (r : Result (Vec ℕ) E) (admitted : Category → List ℕ → Bool) (part : Part) (bytes places : List ℕ) (words : ℕ) (live : List Bool) (range : ℕ) (hits : List ℕ) → part ≡ part_of bytes live → IsTable bytes places words live → range ≡ length part.entries → 0 < range
    → Found admitted bytes words range hits → IfOk r (λ v. v.items ≡ filter (λ n. get_or live n false && has hits n) (numbers_from 0 (length live))) → IfOk r (λ v. v.items ≡ answers_of admitted part)
named_answered (Err e) admitted part bytes places words live range hits view table range-is some found given = tt
named_answered (Ok v) admitted part bytes places words live range hits view table range-is some found given =
    let w = has_words part bytes places words live range view table range-is some in
    let long : length live ≡ range = table.long ∙ ap (λ (c : Content). length c.entries) w.is ∙ sym w.all in
    let same : (n : ℕ) → (get_or live n false && has hits n) ≡ (get_or live n false && list_any (λ row. row.entry == n && admitted row.category row.key) (rows_of w.content.postings)) =
    λ n. ap (λ (b : Bool). get_or live n false && b) (found w.content.postings w.read w.legal n ∙ all_rows admitted n range [] w.content.postings w.legal) in
    given ∙ filter_same (λ n. get_or live n false && has hits n) (λ n. get_or live n false && list_any (λ row. row.entry == n && admitted row.category row.key) (rows_of w.content.postings)) (numbers_from 0 (length live)) same
    ∙ ap (λ (n : ℕ). filter (λ k. get_or live k false && list_any (λ row. row.entry == k && admitted row.category row.key) (rows_of w.content.postings)) (numbers_from 0 n)) (long ∙ w.all)
    ∙ ap (λ (c : Content). filter (λ k. get_or live k false && list_any (λ row. row.entry == k && admitted row.category row.key) (rows_of c.postings)) (numbers_from 0 (length c.entries))) (sym w.is)
    ∙ ap (answers_of admitted) (sym view)

-- a part without entries
pub none_answered : (admitted : Category → List ℕ → Bool) (part : Part) (range : ℕ) → range ≡ length part.entries → range ≡ 0 → [] ≡ answers_of admitted part
none_answered admitted part range range-is none = none_of (λ n. get_or part.live n false && list_any (λ row. row.entry == n && admitted row.category row.key) part.rows) (length part.entries) (sym range-is ∙ none)
  where
    none_of : (p : ℕ → Bool) (n : ℕ) → n ≡ 0 → [] ≡ filter p (numbers_from 0 n)
    none_of p zero e = refl
    none_of p (suc n) e = absurd (omega arith)
