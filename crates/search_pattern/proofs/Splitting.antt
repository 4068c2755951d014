-- What stands around parentheses and dots.
use Rattle.std.proofs.Common.{◌≡◌, ◌≢◌, ℕ, suc, ◌+◌, ◌-◌, ◌<◌, Bool, true, false, not, eqb, ltb, cond, List, [], ◌∷◌, ◌++◌, length, take, drop, get_or, position, Option, Some, None, refl, sym, ap, ◌∙◌, arith, length-append}
use denote.Ref.{Bor}
use Rattle.std.proofs.lemmas.Bool.{eqb-true}
use Rattle.std.proofs.lemmas.Bool.Decides.{nat_tests}
use Rattle.std.proofs.lemmas.List.{take-append-le, take-append-drop, take_all}
use Rattle.std.proofs.lemmas.Str.Pattern.{NoCharPasses-char, drop_at_char}
use Rattle.std.specs.Str.Pattern.{RFindsChar, SplitsAroundMatch}
use Rattle.std.specs.List.{position_or_len}
use Rattle.std.specs.Option.{MatchOption, option_copied}
use Rattle.java_tree.specs.declared.search.What.{What}
use Rattle.java_tree.specs.declared.search.What.TheVariants as whats
use Rattle.java_model.specs.SearchPattern.Parts.{is_paren, name_in, before_params, inside_params, fault_after_left, fault_of_params, paren_fault, has_params}
use Rattle.java_model.specs.SearchPattern.Texts.{is_empty, around_last, trimmed}

-- a byte isn't in a text
abbrev pub Lacks : ℕ → List ℕ → Type 0
Lacks c bs = (i : ℕ) → i < length bs → get_or bs i 0 ≢ c

lacks_more : (c b : ℕ) (bs : List ℕ) → Lacks c (b ∷ bs) → Lacks c bs
lacks_more c b bs h = λ i l. h (suc i) (omega arith)

is_other : (c b : ℕ) (bs : List ℕ) → Lacks c (b ∷ bs) → eqb b c ≡ false
is_other c b bs h = elim (eqb b c) as (λ v. eqb b c ≡ v → v ≡ false) [
  | true ↦ λ e. absurd (h 0 (omega arith) (eqb-true b c e))
  | false ↦ λ e. refl
] refl

pub before_left : (xs ys : List ℕ) → Lacks 40 xs → before_params (xs ++ 40 ∷ ys) ≡ xs
before_left [] ys h = refl
before_left (x ∷ xs) ys h = rw (is_other 40 x xs h) (ap (λ bs. x ∷ bs) (before_left xs ys (lacks_more 40 x xs h)))

pub before_none : (bs : List ℕ) → Lacks 40 bs → before_params bs ≡ bs
before_none [] h = refl
before_none (b ∷ bs) h = rw (is_other 40 b bs h) (ap (λ xs. b ∷ xs) (before_none bs (lacks_more 40 b bs h)))

pub inside_left : (xs ys : List ℕ) → Lacks 40 xs → inside_params (xs ++ 40 ∷ ys) ≡ Some (take (length ys - 1) ys)
inside_left [] ys h = refl
inside_left (x ∷ xs) ys h = rw (is_other 40 x xs h) (inside_left xs ys (lacks_more 40 x xs h))

pub inside_none : (bs : List ℕ) → Lacks 40 bs → inside_params bs ≡ None
inside_none [] h = refl
inside_none (b ∷ bs) h = rw (is_other 40 b bs h) (inside_none bs (lacks_more 40 b bs h))

pub around_no_dot : (bs : List ℕ) → Lacks 46 bs → around_last 46 bs ≡ None
around_no_dot [] h = refl
around_no_dot (b ∷ bs) h = rw (around_no_dot bs (lacks_more 46 b bs h)) (rw (is_other 46 b bs h) refl)

pub around_dot : (xs ys : List ℕ) → Lacks 46 ys → around_last 46 (xs ++ 46 ∷ ys) ≡ Some (xs, ys)
around_dot [] ys h = rw (around_no_dot ys h) refl
around_dot (x ∷ xs) ys h = rw (around_dot xs ys h) refl

-- a text ends in `)`
abbrev EndsRight : List ℕ → Type 0
EndsRight bs = (zs : List ℕ) × (bs ≡ zs ++ 41 ∷ [])

ends_right_at : (b : ℕ) (bs : List ℕ) (k : ℕ) (u v : Bool) → eqb b 41 ≡ v → (fault_after_left (suc k) bs ≡ None → EndsRight bs) →
    cond u (Some k) (cond v (cond (is_empty bs) None (Some (suc k))) (fault_after_left (suc k) bs)) ≡ None → EndsRight (b ∷ bs)
ends_right_at b bs k true v e more h = absurd (cc)
ends_right_at b [] k false true e more h = ([], ap (λ x. x ∷ []) (eqb-true b 41 e))
ends_right_at b (x ∷ xs) k false true e more h = absurd (cc)
ends_right_at b bs k false false e more h = let r = more h in (b ∷ r.0, ap (λ xs. b ∷ xs) r.1)

ends_right : (bs : List ℕ) (k : ℕ) → fault_after_left k bs ≡ None → EndsRight bs
ends_right [] k h = absurd (cc)
ends_right (b ∷ bs) k h = ends_right_at b bs k (eqb b 40) (eqb b 41) refl (ends_right bs (suc k)) h

no_some : (v : Bool) (k : ℕ) (o : Option ℕ) → cond v (Some k) o ≡ None → o ≡ None
no_some true k o h = absurd (cc)
no_some false k o h = h

left_followed : (xs ys : List ℕ) (k : ℕ) → Lacks 40 xs → fault_of_params k (xs ++ 40 ∷ ys) ≡ None → (j : ℕ) × (fault_after_left j ys ≡ None)
left_followed [] ys k l h = (suc k, h)
left_followed (x ∷ xs) ys k l h =
    left_followed xs ys (suc k) (lacks_more 40 x xs l) (no_some (eqb x 41) k (fault_of_params (suc k) (xs ++ 40 ∷ ys)) (rw (is_other 40 x xs l) at h))

paren_below : (xs ys : List ℕ) → position_or_len is_paren (xs ++ 40 ∷ ys) < length (xs ++ 40 ∷ ys)
paren_below [] ys = omega arith
paren_below (x ∷ xs) ys = below_at (is_paren x) (position_or_len is_paren (xs ++ 40 ∷ ys)) (length (xs ++ 40 ∷ ys)) (paren_below xs ys)
  where
    below_at : (v : Bool) (n m : ℕ) → n < m → cond (not v) (1 + n) 0 < suc m
    below_at true n m h = omega arith
    below_at false n m h = omega arith

lt_true : (m n : ℕ) → m < n → ltb m n ≡ true
lt_true m n h = grind (arith, nat_tests)

paren_found : (bs : List ℕ) → position_or_len is_paren bs < length bs → position is_paren bs ≡ None → ⊥
paren_found bs l h = none_of (ltb (position_or_len is_paren bs) (length bs)) (position_or_len is_paren bs) (lt_true (position_or_len is_paren bs) (length bs) l) h
  where
    none_of : (v : Bool) (k : ℕ) → v ≡ true → cond v (Some k) None ≡ None → ⊥
    none_of true k e h = cc
    none_of false k e h = cc

paren_ends : (v : Bool) (xs ys : List ℕ) → Lacks 40 xs → cond v (fault_of_params 0 (xs ++ 40 ∷ ys)) (position is_paren (xs ++ 40 ∷ ys)) ≡ None → EndsRight ys
paren_ends true xs ys l h = let f = left_followed xs ys 0 l h in ends_right ys f.0 f.1
paren_ends false xs ys l h = absurd (paren_found (xs ++ 40 ∷ ys) (paren_below xs ys) h)

take_before : (zs : List ℕ) → take (length (zs ++ 41 ∷ []) - 1) (zs ++ 41 ∷ []) ≡ zs
take_before zs =
    let n : length (zs ++ 41 ∷ []) - 1 ≡ length zs = omega (arith, length-append zs (41 ∷ [])) in
    ap (λ k. take k (zs ++ 41 ∷ [])) n ∙ (take-append-le (length zs) zs (41 ∷ []) (omega arith) ∙ take_all (length zs) zs (omega arith))

-- what `split_once` and `strip_suffix` find is what stands between the parentheses
pub inside_found : (what : What) (text xs ys : List ℕ) (r : Option (Bor (List ℕ))) → Lacks 40 xs → text ≡ xs ++ 40 ∷ ys → paren_fault what text ≡ None →
    MatchOption r ((front : List ℕ) → ys ≢ front ++ 41 ∷ []) (λ x. ys ≡ x.now ++ 41 ∷ []) → option_copied r ≡ inside_params text
inside_found what text xs ys None l e h f =
    let r = paren_ends (has_params what) xs ys l (sym (ap (paren_fault what) e) ∙ h) in absurd (f r.0 r.1)
inside_found what text xs ys (Some x) l e h f =
    ap Some (sym (take_before x.now) ∙ sym (ap (λ (bs : List ℕ). take (length bs - 1) bs) f)) ∙ sym (ap inside_params e ∙ inside_left xs ys l)

-- what `rsplit_once` finds stands around the last dot
pub dot_found : (text front back : List ℕ) → SplitsAroundMatch (RFindsChar 46) text front back → around_last 46 text ≡ Some (front, back)
dot_found text front back h =
    let i = h.0 in
    let j = h.1 in
    let rest : List ℕ = drop j text in
    let no_dot : Lacks 46 rest = λ k l. NoCharPasses-char 46 rest k h.2.0 (omega arith) l in
    let whole : take i text ++ 46 ∷ rest ≡ text = sym (ap (λ xs. take i text ++ xs) (drop_at_char 46 text i j h.2.1 (omega arith))) ∙ take-append-drop i text in
    sym (ap (around_last 46) whole) ∙ (around_dot (take i text) rest no_dot ∙ sym (ap (λ (xs : List ℕ). Some (xs, rest)) h.3) ∙ sym (ap (λ (ys : List ℕ). Some (front, ys)) h.4))

pub no_dot_found : (text : List ℕ) → RFindsChar 46 text None → around_last 46 text ≡ None
no_dot_found text h = around_no_dot text (λ k l. NoCharPasses-char 46 text k h (omega arith) l)

pub qualified : (text front back : List ℕ) → around_last 46 text ≡ Some (front, back) → name_in whats.Class text ≡ (Some (trimmed front), trimmed back)
qualified text front back e = rw (name_in, e) refl

pub unqualified : (text : List ℕ) → around_last 46 text ≡ None → name_in whats.Class text ≡ (None, trimmed text)
unqualified text e = rw (name_in, e) refl
