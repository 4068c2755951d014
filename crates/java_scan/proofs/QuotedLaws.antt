-- Literals at a place are those of its characters.
use Rattle.std.proofs.Common.{◌≡◌, ℕ, zero, suc, ◌+◌, ◌<◌, Bool, true, false, cond, ◌&&◌, ◌==◌, List, [], ◌∷◌, drop, length, length-drop, Some, None, refl, sym, ap, ap₂, ◌∙◌, arith, nat_lt}
use Rattle.std.proofs.lemmas.Bool.Decides.{nat_tests}
use Rattle.java_model.specs.Lexical.Characters.{backslash, double_quote, slash, star}
use Rattle.java_model.proofs.Lexical.Reading.{begins, is_escaped, is_bare, inside_length, tail_length}
use Rattle.java_scan.specs.declared.class.Class.TheVariants.{Backslash, Escaped}
use Rattle.java_scan.specs.Classes.{passes}
use Rattle.java_scan.specs.Place.{Place, first, next, advance}
use Rattle.java_scan.specs.Steps.{after_if, sees_escape, after_escape, after_string_characters, tail_end}
use Rattle.java_scan.proofs.PlaceLaws.{first_split, first_none, begins_some, next-left, advance-zero, advance-one, advance-suc, advance-advance, advance-left}
use Rattle.java_scan.proofs.NumberLaws.{after_if-true, suc_some}

-- the characters of a string

inside_bare : (c : ℕ) (cs : List ℕ) → c == backslash ≡ false → is_bare double_quote c ≡ true → inside_length false (c ∷ cs) ≡ suc (inside_length false cs)
unfolding inside_length
inside_bare c cs h k = rw (h, inside_length) (rw (k, inside_length) refl)

inside_stop : (c : ℕ) (cs : List ℕ) → c == backslash ≡ false → is_bare double_quote c ≡ false → inside_length false (c ∷ cs) ≡ 0
unfolding inside_length
inside_stop c cs h k = rw (h, inside_length) (rw (k, inside_length) refl)

inside_escape : (c : ℕ) (cs : List ℕ) → is_escaped c ≡ true → inside_length false (backslash ∷ c ∷ cs) ≡ suc (suc (inside_length false cs))
unfolding inside_length
inside_escape c cs h = rw (h, inside_length) refl

inside_bad : (cs : List ℕ) → begins is_escaped cs ≡ false → inside_length false (backslash ∷ cs) ≡ 0
unfolding inside_length
inside_bad [] h = refl
inside_bad (c ∷ cs) h = rw (h, inside_length) refl

inside_over : inside_length false [] ≡ 0
unfolding inside_length
inside_over = refl

pub string_bare : (p : Place) (c : ℕ) → first p.left ≡ Some c → c == backslash ≡ false → is_bare double_quote c ≡ true → after_string_characters (next p) ≡ after_string_characters p
unfolding after_string_characters
string_bare p c e h k =
    ap (λ cs. advance (inside_length false cs) (next p)) (next-left p) ∙ (sym (advance-suc (inside_length false (drop 1 p.left)) p) ∙ ap (λ n. advance n p) (sym (ap (inside_length false) (first_split p.left c e) ∙ inside_bare c (drop 1 p.left) h k)))

stopped : (p : Place) → inside_length false p.left ≡ 0 → after_string_characters p ≡ p
unfolding after_string_characters
stopped p e = ap (λ n. advance n p) e ∙ advance-zero p

pub string_stop : (p : Place) (c : ℕ) → first p.left ≡ Some c → c == backslash ≡ false → is_bare double_quote c ≡ false → after_string_characters p ≡ p
string_stop p c e h k = stopped p (ap (inside_length false) (first_split p.left c e) ∙ inside_stop c (drop 1 p.left) h k)

pub string_over : (p : Place) → first p.left ≡ None → after_string_characters p ≡ p
string_over p e = stopped p (ap (inside_length false) (first_none p.left e) ∙ inside_over)

-- at a backslash

at_backslash : (p : Place) → first p.left ≡ Some backslash → after_if (passes Backslash) p ≡ advance 1 p
unfolding passes
at_backslash p e = after_if-true (passes Backslash) p (begins_some (passes Backslash) p.left backslash e)

behind_backslash : (p : Place) → first p.left ≡ Some backslash → (after_if (passes Backslash) p).left ≡ drop 1 p.left
behind_backslash p e = ap (λ q. q.left) (at_backslash p e) ∙ advance-left 1 p

escape_left : (p : Place) (c : ℕ) → first p.left ≡ Some backslash → first (drop 1 p.left) ≡ Some c → p.left ≡ backslash ∷ c ∷ drop 1 (drop 1 p.left)
escape_left p c e f = first_split p.left backslash e ∙ ap (λ x. backslash ∷ x) (first_split (drop 1 p.left) c f)

pub head_of : (test : ℕ → Bool) (cs : List ℕ) → begins test cs ≡ true → (c : ℕ) × (first cs ≡ Some c) × (test c ≡ true)
head_of test [] h = cc
head_of test (c ∷ cs) h = (c, refl, h)

drop_twice : (cs : List ℕ) → drop 1 (drop 1 cs) ≡ drop 2 cs
drop_twice [] = refl
drop_twice (c ∷ []) = refl
drop_twice (c ∷ d ∷ cs) = refl

after_escape-advance : (p : Place) → first p.left ≡ Some backslash → sees_escape p ≡ true → after_escape p ≡ advance 2 p
unfolding sees_escape after_escape passes
after_escape-advance p e h =
    after_if-true (passes Escaped) (after_if (passes Backslash) p) h ∙ (ap (advance 1) (at_backslash p e) ∙ advance-advance 1 1 p)

pub string_escape : (p : Place) → first p.left ≡ Some backslash → sees_escape p ≡ true → after_string_characters (after_escape p) ≡ after_string_characters p
unfolding after_string_characters sees_escape passes
string_escape p e h =
    let d : begins (passes Escaped) (drop 1 p.left) ≡ true = ap (begins (passes Escaped)) (sym (behind_backslash p e)) ∙ h in
    let f = head_of (passes Escaped) (drop 1 p.left) d in
    let a = after_escape-advance p e h in
    let cs = drop 1 (drop 1 p.left) in
    let left : (after_escape p).left ≡ cs = ap (λ q. q.left) a ∙ (advance-left 2 p ∙ sym (drop_twice p.left)) in
    let n : inside_length false p.left ≡ suc (suc (inside_length false cs)) = ap (inside_length false) (escape_left p f.0 e f.1) ∙ inside_escape f.0 cs f.2 in
    let k : 2 + inside_length false cs ≡ suc (suc (inside_length false cs)) = omega arith in
    ap₂ (λ xs q. advance (inside_length false xs) q) left a ∙ (advance-advance 2 (inside_length false cs) p ∙ ap (λ m. advance m p) (k ∙ sym n))

pub string_bad : (p : Place) → first p.left ≡ Some backslash → sees_escape p ≡ false → after_string_characters p ≡ p
unfolding sees_escape passes
string_bad p e h =
    let d : begins (passes Escaped) (drop 1 p.left) ≡ false = ap (begins (passes Escaped)) (sym (behind_backslash p e)) ∙ h in
    stopped p (ap (inside_length false) (first_split p.left backslash e) ∙ inside_bad (drop 1 p.left) d)

-- the rest of a comment

tail_closes : (cs : List ℕ) (c : ℕ) → c == slash ≡ true → tail_length true (c ∷ cs) ≡ 1
unfolding tail_length
tail_closes cs c h = rw (h, tail_length) refl

tail_more : (after_star : Bool) (c : ℕ) (cs : List ℕ) → after_star && c == slash ≡ false → tail_length after_star (c ∷ cs) ≡ cond (tail_length (c == star) cs == 0) 0 (suc (tail_length (c == star) cs))
unfolding tail_length
tail_more after_star c cs h = rw (h, tail_length) refl

tail_none : (after_star : Bool) → tail_length after_star [] ≡ 0
unfolding tail_length
tail_none after_star = refl

pub comment_closes : (p : Place) (c : ℕ) → first p.left ≡ Some c → c == slash ≡ true → tail_end true p ≡ Some (next p)
unfolding tail_end
comment_closes p c e h =
    let n : tail_length true p.left ≡ 1 = ap (tail_length true) (first_split p.left c e) ∙ tail_closes (drop 1 p.left) c h in
    ap (λ k. cond (nat_lt 0 k) (Some (advance k p)) None) n ∙ ap (λ q. Some q) (advance-one p)

suc_not_zero : (n : ℕ) → suc n == 0 ≡ false
suc_not_zero n = grind (arith, nat_tests)

ends_later : (p : Place) (n : ℕ) → cond (nat_lt 0 n) (Some (advance n (next p))) None ≡ cond (nat_lt 0 (cond (n == 0) 0 (suc n))) (Some (advance (cond (n == 0) 0 (suc n)) p)) None
ends_later p zero = refl
ends_later p (suc n) = rw (suc_some n, suc_not_zero n) (rw (suc_some (suc n)) (ap (λ q. Some q) (sym (advance-suc (suc n) p))))

pub comment_goes_on : (p : Place) (c : ℕ) (after_star : Bool) → first p.left ≡ Some c → after_star && c == slash ≡ false → tail_end (c == star) (next p) ≡ tail_end after_star p
unfolding tail_end
comment_goes_on p c after_star e h =
    let n : tail_length after_star p.left ≡ cond (tail_length (c == star) (drop 1 p.left) == 0) 0 (suc (tail_length (c == star) (drop 1 p.left))) = ap (tail_length after_star) (first_split p.left c e) ∙ tail_more after_star c (drop 1 p.left) h in
    ap (λ cs. cond (nat_lt 0 (tail_length (c == star) cs)) (Some (advance (tail_length (c == star) cs) (next p))) None) (next-left p)
    ∙ (ends_later p (tail_length (c == star) (drop 1 p.left)) ∙ ap (λ k. cond (nat_lt 0 k) (Some (advance k p)) None) (sym n))

pub comment_over : (p : Place) (after_star : Bool) → first p.left ≡ None → tail_end after_star p ≡ None
unfolding tail_end
comment_over p after_star e =
    let n : tail_length after_star p.left ≡ 0 = ap (tail_length after_star) (first_none p.left e) ∙ tail_none after_star in
    ap (λ k. cond (nat_lt 0 k) (Some (advance k p)) None) n

pub escape_shorter : (p : Place) → first p.left ≡ Some backslash → sees_escape p ≡ true → length (after_escape p).left < length p.left
escape_shorter p e h =
    let s = first_split p.left backslash e in
    omega (arith, ap length s, ap (λ q. length q.left) (after_escape-advance p e h), ap length (advance-left 2 p), ap length (drop_twice p.left), length-drop 2 p.left)
