-- Names compared piece by piece.
use Rattle.std.proofs.Common.{◌≡◌, ℕ, suc, Bool, true, false, ◌&&◌, eqb, cond, List, [], ◌∷◌, Some, None, length, drop, get_or, ◌+◌, ◌<◌, refl, sym, ap, ◌∙◌, add-one, drop-cons}
use Rattle.std.proofs.lemmas.Bool.{false≢true, eqb-true}
use Rattle.std.specs.Option.{option_map_or}
use Rattle.java_model.specs.SearchPattern.NameMatch.{is_capital, pieces, is_prefix, are_prefixes, is_camel}
use Rattle.java_model.specs.SearchPattern.Texts.{onto_first}
use Rattle.search_pattern.specs.Camel.{after_byte, from_capital}

-- what stands before the first capital
abbrev pub before_capital : List ℕ → List ℕ
before_capital [] = []
before_capital (b ∷ bs) = cond (is_capital b) [] (b ∷ before_capital bs)

-- the first piece ends where the next one begins
first_piece : (a : ℕ) (bs : List ℕ) → pieces (a ∷ bs) ≡ (a ∷ before_capital bs) ∷ pieces (from_capital bs)
first_piece a [] = refl
first_piece a (b ∷ bs) =
    elim (is_capital b) as (λ v. cond v ((a ∷ []) ∷ pieces (b ∷ bs)) (onto_first a (pieces (b ∷ bs)))
    ≡ (a ∷ cond v [] (b ∷ before_capital bs)) ∷ pieces (cond v (b ∷ bs) (from_capital bs))) [
      | true ↦ refl
      | false ↦ ap (onto_first a) (first_piece b bs)
    ]

-- within a piece, what is left of a pattern matches what is left of a name
abbrev pub left_matches : List ℕ → List ℕ → Bool
left_matches ps ns = is_prefix true (before_capital ps) (before_capital ns) && are_prefixes (pieces (from_capital ps)) (pieces (from_capital ns))

left_where : (b : Bool) (ps ns : List ℕ) →
    ((b && is_prefix true (before_capital ps) (before_capital ns)) && are_prefixes (pieces (from_capital ps)) (pieces (from_capital ns)))
    ≡ option_map_or (left_matches ps) (cond b (Some ns) None) false
left_where true ps ns = refl
left_where false ps ns = refl

-- a pattern matches where its first byte stands, and what follows matches what follows
camel_from : (p : ℕ) (ps ns : List ℕ) → is_camel (p ∷ ps) ns ≡ option_map_or (left_matches ps) (after_byte p ns) false
camel_from p ps [] = rw (first_piece p ps) refl
camel_from p ps (n ∷ ns) = rw (first_piece p ps, first_piece n ns) (left_where (eqb p n) ps ns)

differ : (p n : ℕ) → is_capital p ≡ false → is_capital n ≡ true → eqb p n ≡ false
differ p n e f = elim (eqb p n) as (λ v. eqb p n ≡ v → v ≡ false) [
  | true ↦ λ h. absurd (false≢true (sym e ∙ (ap is_capital (eqb-true p n h) ∙ f)))
  | false ↦ λ h. refl
] refl

within_name : (p : ℕ) (ps : List ℕ) (n : ℕ) (ns : List ℕ) → is_capital p ≡ false → (v : Bool) → is_capital n ≡ v →
    (is_prefix true (p ∷ before_capital ps) (cond v [] (n ∷ before_capital ns)) && are_prefixes (pieces (from_capital ps)) (pieces (cond v (n ∷ ns) (from_capital ns))))
    ≡ option_map_or (left_matches ps) (cond (eqb p n) (Some ns) None) false
within_name p ps n ns e true f = rw (differ p n e f) refl
within_name p ps n ns e false f = left_where (eqb p n) ps ns

within : (p : ℕ) (ps ns : List ℕ) → is_capital p ≡ false →
    (is_prefix true (p ∷ before_capital ps) (before_capital ns) && are_prefixes (pieces (from_capital ps)) (pieces (from_capital ns)))
    ≡ option_map_or (left_matches ps) (after_byte p ns) false
within p ps [] e = refl
within p ps (n ∷ ns) e = within_name p ps n ns e (is_capital n) refl

left_split : (p : ℕ) (ps ns : List ℕ) (v : Bool) → is_capital p ≡ v →
    (is_prefix true (cond v [] (p ∷ before_capital ps)) (before_capital ns) && are_prefixes (pieces (cond v (p ∷ ps) (from_capital ps))) (pieces (from_capital ns)))
    ≡ option_map_or (left_matches ps) (after_byte p (cond v (from_capital ns) ns)) false
left_split p ps ns true e = camel_from p ps (from_capital ns)
left_split p ps ns false e = within p ps ns e

-- the same within a piece: a capital begins the next one
left_from : (p : ℕ) (ps ns : List ℕ) → left_matches (p ∷ ps) ns ≡ option_map_or (left_matches ps) (after_byte p (cond (is_capital p) (from_capital ns) ns)) false
left_from p ps ns = left_split p ps ns (is_capital p) refl

-- the loop over a pattern after its first byte
pub camel_fails : (pattern name : List ℕ) (p : ℕ) (ps : List ℕ) → pattern ≡ p ∷ ps → after_byte p name ≡ None → is_camel pattern name ≡ false
camel_fails pattern name p ps e f = rw e (camel_from p ps name ∙ ap (λ o. option_map_or (left_matches ps) o false) f)

pub camel_begins : (pattern name : List ℕ) (p : ℕ) (ps left : List ℕ) → pattern ≡ p ∷ ps → after_byte p name ≡ Some left → left_matches ps left ≡ is_camel pattern name
camel_begins pattern name p ps left e f = rw e (sym (camel_from p ps name ∙ ap (λ o. option_map_or (left_matches ps) o false) f))

abbrev pub sought : ℕ → List ℕ → List ℕ
sought p left = cond (is_capital p) (from_capital left) left

pub left_fails : (ps left : List ℕ) (i : ℕ) → i < length ps → after_byte (get_or ps i 0) (sought (get_or ps i 0) left) ≡ None → left_matches (drop i ps) left ≡ false
left_fails ps left i h f =
    rw (drop-cons ps i 0 h) (left_from (get_or ps i 0) (drop (suc i) ps) left ∙ ap (λ o. option_map_or (left_matches (drop (suc i) ps)) o false) f)

pub left_more : (ps left : List ℕ) (i : ℕ) (after : List ℕ) → i < length ps → after_byte (get_or ps i 0) (sought (get_or ps i 0) left) ≡ Some after →
    left_matches (drop (i + 1) ps) after ≡ left_matches (drop i ps) left
left_more ps left i after h f =
    rw (add-one, drop-cons ps i 0 h) (sym (left_from (get_or ps i 0) (drop (suc i) ps) left ∙ ap (λ o. option_map_or (left_matches (drop (suc i) ps)) o false) f))
