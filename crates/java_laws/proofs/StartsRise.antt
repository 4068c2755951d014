-- Tokens whose spans rise: no two start at one place, and each type of a unit is found by its brace.
use Rattle.std.proofs.Common.{◌≡◌, ◌<◌, ◌≤◌, ◌+◌, ◌==◌, ℕ, zero, suc, Bool, true, false, cond, not, codes, List, [], ◌∷◌, Option, Some, None, length, slice_get, refl, sym, ap, subst, ◌∙◌, arith, inl, inr, nat_lt}
use Rattle.std.specs.Prelude.{option_map}
use Rattle.std.specs.Option.{option_and_then}
use Rattle.std.specs.List.{position_or_len}
use Rattle.std.specs.Str.{bytes_eq}
use Rattle.std.proofs.lemmas.Bool.{eq-eqb, lt-ltb, le-ltb, ltb-false, cases_order}
use Rattle.std.proofs.lemmas.Bool.{ne_eqb}
use Rattle.std.proofs.lemmas.Option.{none-some, same_Some}
use Rattle.java_tree.specs.declared.mark.Mark.{Mark}
use Rattle.java_tree.specs.declared.mark.Mark.TheVariants as marks
use Rattle.java_tree.specs.declared.names.Ident.{Ident}
use Rattle.java_tree.specs.declared.names.Literal.{Literal}
use Rattle.java_tree.specs.declared.names.Literal.TheVariants as literals
use Rattle.java_tree.specs.declared.token.Span.{Span}
use Rattle.java_tree.specs.declared.token.Token.{Token}
use Rattle.java_tree.specs.declared.token.TokenKind.{TokenKind}
use Rattle.java_tree.specs.declared.token.TokenKind.TheVariants as kinds
use Rattle.java_tree.specs.declared.unit.TypeDecl.{TypeDecl}
use Rattle.java_tree.specs.declared.unit.Unit.{Unit as CompilationUnit}
use Rattle.java_model.specs.Lexical.Tokens.{RiseWithin}
use Rattle.java_model.specs.Grammar.Forms.{last_or}
use Rattle.java_model.specs.Grammar.Braces.{left_braces, braces_of, IsSublist, none_of, takes, skips}
use Rattle.java_model.specs.Grammar.Marks.{mark_of, keywords, symbols}
use Rattle.java_model.specs.Grammar.Signs.{Sign, mark, left_brace, this, super, word, literal, stray, placed, keyword_sign, symbol_sign, sign_by, sign, signs}
use Rattle.java_model.specs.Grammar.Units.{IsUnitOf}
use Rattle.java_model.specs.Tree.Children.{Numbered, number_of}
use Rattle.java_model.proofs.Grammar.Braces.{unit_braces}
use Rattle.java_laws.proofs.Starts.{Weight, idents-by, weight, weights, Known, Knows}

-- numbers from a bound on, each above the one before
abbrev Above : ℕ → List ℕ → Type 0
Above low [] = Unit {0}
Above low (x ∷ xs) = (low ≤ x) × Above (suc x) xs

weaker : (low high : ℕ) (xs : List ℕ) → low ≤ high → Above high xs → Above low xs
weaker low high [] h a = tt
weaker low high (x ∷ xs) h a = let first = a.0 in (omega (arith, h, first), a.1)

with_sign : (x : Sign) (ts : List Sign) (low start : ℕ) → ((at : ℕ) → x ≡ left_brace at → at ≡ start) → low ≤ start → Above (suc start) (left_braces ts)
    → Above low (left_braces (x ∷ ts))
with_sign (left_brace at) ts low start place h a = let same = place at refl in (
  omega (arith, same, h),
  subst (λ n. Above (suc n) (left_braces ts))
      (sym same) a,
)
with_sign (mark m) ts low start place h a = weaker low (suc start) (left_braces ts) (omega (arith, h)) a
with_sign (this s) ts low start place h a = weaker low (suc start) (left_braces ts) (omega (arith, h)) a
with_sign (super s) ts low start place h a = weaker low (suc start) (left_braces ts) (omega (arith, h)) a
with_sign (word i) ts low start place h a = weaker low (suc start) (left_braces ts) (omega (arith, h)) a
with_sign (literal l) ts low start place h a = weaker low (suc start) (left_braces ts) (omega (arith, h)) a
with_sign stray ts low start place h a = weaker low (suc start) (left_braces ts) (omega (arith, h)) a

placed_at : (span : Span) (m : Option Mark) (at : ℕ) → placed span m ≡ left_brace at → at ≡ span.start
placed_at span None at e = cc
placed_at span (Some marks.LeftBrace) at e = cc
placed_at span (Some m) at e = cc

other_word : (b : Bool) (l : Literal) (y : Sign) (at : ℕ) → cond b (literal l) y ≡ left_brace at → y ≡ left_brace at
other_word true l y at e = cc
other_word false l y at e = e

keyword_at : (name : List ℕ) (span : Span) (at : ℕ) → keyword_sign name span ≡ left_brace at → at ≡ span.start
unfolding keyword_sign
keyword_at name span at e =
    placed_at span (mark_of keywords name) at
    (other_word (bytes_eq (codes "null") name) literals.Null (placed span (mark_of keywords name)) at
    (other_word (bytes_eq (codes "false") name) literals.False (cond (bytes_eq (codes "null") name) (literal literals.Null) (placed span
    (mark_of keywords name))) at
    (other_word (bytes_eq (codes "true") name) literals.True
    (cond (bytes_eq (codes "false") name) (literal literals.False) (cond (bytes_eq (codes "null") name) (literal literals.Null) (placed span
    (mark_of keywords name)))) at e)))

symbol_at : (name : List ℕ) (span : Span) (at : ℕ) → symbol_sign name span ≡ left_brace at → at ≡ span.start
unfolding symbol_sign
symbol_at name span at e = placed_at span (mark_of symbols name) at e

kind_at : (k : TokenKind) (name : List ℕ) (span : Span) (at : ℕ) → sign_by k name span ≡ left_brace at → at ≡ span.start
kind_at kinds.Keyword name span at e = keyword_at name span at e
kind_at kinds.Symbol name span at e = symbol_at name span at e
kind_at kinds.Identifier name span at e = cc
kind_at kinds.IntLit name span at e = cc
kind_at kinds.LongLit name span at e = cc
kind_at kinds.FloatLit name span at e = cc
kind_at kinds.DoubleLit name span at e = cc
kind_at kinds.CharLit name span at e = cc
kind_at kinds.StringLit name span at e = cc

-- a token that is a `{` stands at its offset
sign_place : (t : Token) (at : ℕ) → sign t ≡ left_brace at → at ≡ t.span.start
sign_place t at e = kind_at t.kind t.name t.span at e

sub_above : (low : ℕ) (xs ys : List ℕ) → IsSublist xs ys → Above low ys → Above low xs
sub_above low [] ys (none_of _) a = tt
sub_above low (x ∷ xs) (x' ∷ ys) (takes _ _ _ s) a = (a.0, sub_above (suc x) xs ys s a.1)
sub_above low xs (y ∷ ys) (skips _ _ _ s) a = let first = a.0 in weaker low (suc y) xs (omega (arith, first)) (sub_above (suc y) xs ys s a.1)

braces-above : (low high : ℕ) (ts : List Token) → RiseWithin low high ts → Above low (left_braces (signs ts))
braces-above low high [] h = tt
braces-above low high (t ∷ ts) h =
    let l = h.1 in
    with_sign (sign t) (signs ts) low t.span.start (λ at e. sign_place t at e) h.0
    (weaker (suc t.span.start) t.span.end (left_braces (signs ts)) (omega (arith, l)) (braces-above t.span.end high ts h.2))

-- WEIGHTS
placed-weight : (at : Weight) (span : Span) (m : Option Mark) → weight at (placed span m) ≤ at.weigh span
placed-weight at span None = omega arith
placed-weight at span (Some marks.LeftBrace) = omega arith
placed-weight at span (Some marks.This) = omega arith
placed-weight at span (Some marks.Super) = omega arith
placed-weight at span (Some m) = omega arith

cond-weight : (at : Weight) (b : Bool) (l : Literal) (y : Sign) (k : ℕ) → weight at y ≤ k → weight at (cond b (literal l) y) ≤ k
cond-weight at true l y k h = omega arith
cond-weight at false l y k h = h

keyword-weight : (at : Weight) (name : List ℕ) (span : Span) → weight at (keyword_sign name span) ≤ at.weigh span
unfolding keyword_sign
keyword-weight at name span =
    cond-weight at (bytes_eq (codes "true") name) _ _ _ (cond-weight at (bytes_eq (codes "false") name) _ _ _ (cond-weight at (bytes_eq
    (codes "null") name) _ _ _
    (placed-weight at span (mark_of keywords name))))

symbol-weight : (at : Weight) (name : List ℕ) (span : Span) → weight at (symbol_sign name span) ≤ at.weigh span
unfolding symbol_sign
symbol-weight at name span = placed-weight at span (mark_of symbols name)

kind-weight : (at : Weight) (k : TokenKind) (name : List ℕ) (span : Span) → weight at (sign_by k name span) ≤ at.weigh span
kind-weight at kinds.Keyword name span = keyword-weight at name span
kind-weight at kinds.Symbol name span = symbol-weight at name span
kind-weight at kinds.Identifier name span = omega arith
kind-weight at kinds.IntLit name span = omega arith
kind-weight at kinds.LongLit name span = omega arith
kind-weight at kinds.FloatLit name span = omega arith
kind-weight at kinds.DoubleLit name span = omega arith
kind-weight at kinds.CharLit name span = omega arith
kind-weight at kinds.StringLit name span = omega arith

-- 1 for what starts at a place
abbrev pub one : ℕ → ℕ → ℕ
one at start = cond (at == start) 1 0

abbrev pub starting : ℕ → Weight
starting at = record { weigh = λ s. one at s.start; wide = λ i is. omega arith }

one-else : (at start : ℕ) → (at ≡ start → ⊥) → one at start ≡ 0
one-else at start h = ap (λ b. cond b 1 0) (ne_eqb at start h)

one-most : (at start : ℕ) → one at start ≤ 1
one-most at start = by (at == start)
  where
    by : (b : Bool) → cond b 1 0 ≤ 1
    by true = omega arith
    by false = omega arith

rise-weights : (at low high : ℕ) (ts : List Token) → RiseWithin low high ts
    → (weights (starting at) (signs ts) ≤ 1) × (at < low → weights (starting at) (signs ts) ≤ 0)
rise-weights at low high [] h = (omega arith, λ l. omega arith)
rise-weights at low high (t ∷ ts) h =
    let r = rise-weights at t.span.end high ts h.2 in
    let w : weight (starting at) (sign t) ≤ one at t.span.start = kind-weight (starting at) t.kind t.name t.span in
    let a = h.0 in
    let b = h.1 in
    let r0 = r.0 in
    elim (cases_order at t.span.start) [
      | inl e ↦
          let m = one-most at t.span.start in
          let z = r.1 (omega (arith, e, b)) in
          (omega (arith, m, z, w), λ l. absurd (omega (arith, l, a, e)))
      | inr d ↦
          let m = one-else at t.span.start (λ e. elim d [ inl x ↦ absurd (omega (arith, e, x)) | inr x ↦ absurd (omega (arith, e, x)) ]) in
          (omega (arith, m, w, r0), λ l. let z = r.1 (omega (arith, l, a, b)) in omega (arith, m, w, z))
    ]

pub one-start : (low high : ℕ) (ts : List Token) → RiseWithin low high ts → (at : ℕ) → weights (starting at) (signs ts) ≤ 1
one-start low high ts h at = (rise-weights at low high ts h).0

-- 1 for what ends past a place
abbrev pub late : ℕ → ℕ → ℕ
late high end = cond (nat_lt high end) 1 0

pub late-last : (high : ℕ) (i : Ident) (is : List Ident) → late high (last_or i is).span.end ≤ idents-by (λ s. late high s.end) (i ∷ is)
late-last high i [] = omega arith
late-last high i (j ∷ is) = let h = late-last high j is in omega (arith, h)

abbrev pub ending : ℕ → Weight
ending high = record { weigh = λ s. late high s.end; wide = λ i is. late-last high i is }

late-none : (high end : ℕ) → end ≤ high → late high end ≡ 0
late-none high end h = ap (λ b. cond b 1 0) (le-ltb high end h)

pub within : (high end : ℕ) → late high end ≤ 0 → end ≤ high
within high end h = by (nat_lt high end) refl h
  where
    by : (b : Bool) → nat_lt high end ≡ b → cond b 1 0 ≤ 0 → end ≤ high
    by true e l = absurd (omega (arith, l))
    by false e l = ltb-false high end e

in-range : (low high : ℕ) (ts : List Token) → RiseWithin low high ts → low ≤ high
in-range low high [] h = h
in-range low high (t ∷ ts) h =
    let r = in-range t.span.end high ts h.2 in
    let a = h.0 in
    let b = h.1 in
    omega (arith, r, a, b)

-- no token ends past the last place
pub no-end : (low high : ℕ) (ts : List Token) → RiseWithin low high ts → weights (ending high) (signs ts) ≤ 0
no-end low high [] h = omega arith
no-end low high (t ∷ ts) h =
    let r = no-end t.span.end high ts h.2 in
    let w : weight (ending high) (sign t) ≤ late high t.span.end = kind-weight (ending high) t.kind t.name t.span in
    let m = late-none high t.span.end (in-range t.span.end high ts h.2) in
    omega (arith, r, w, m)

-- TYPES
brace-above : (low : ℕ) (types : List TypeDecl) → Above low (braces_of types) → (i : ℕ) (d : TypeDecl) → slice_get types i ≡ Some d → low ≤ d.brace
brace-above low [] a i d e = absurd (none-some d e)
brace-above low (x ∷ xs) a zero d e = let f = ap (λ t. t.brace) (same_Some x d e) in let b = a.0 in omega (arith, f, b)
brace-above low (x ∷ xs) a (suc i) d e = let h = brace-above (suc x.brace) xs a.1 i d e in let b = a.0 in omega (arith, h, b)

first-at : (low : ℕ) (types : List TypeDecl) → Above low (braces_of types) → (i : ℕ) (d : TypeDecl) → slice_get types i ≡ Some d
    → (position_or_len (λ t. t.brace == d.brace) types ≡ i) × (i < length types)
first-at low [] a i d e = absurd (none-some d e)
first-at low (x ∷ xs) a zero d e =
    (ap (λ b. cond (not b) (1 + position_or_len (λ t. t.brace == d.brace) xs) 0) (eq-eqb x.brace d.brace (ap (λ t. t.brace) (same_Some x d e))), omega arith)
first-at low (x ∷ xs) a (suc i) d e =
    let r = first-at (suc x.brace) xs a.1 i d e in
    let l = brace-above (suc x.brace) xs a.1 i d e in
    let n = r.1 in (
      ap (λ b. cond (not b) (1 + position_or_len (λ t. t.brace == d.brace) xs) 0) (ne_eqb x.brace d.brace (λ q. absurd (omega (arith, q, l))))
          ∙ (ap (λ k. 1 + k) r.0 ∙ omega arith),
      omega (arith, n),
    )

as-numbered : ℕ → TypeDecl → Numbered
as-numbered n t = record { number = n; type = t }

known-at : (low : ℕ) (types : List TypeDecl) → Above low (braces_of types) → (i : ℕ) (d : TypeDecl) → slice_get types i ≡ Some d → Known types d
unfolding as-numbered
known-at low types a i d e =
    let r = first-at low types a i d e in
    let p : number_of types d.brace ≡ Some i = ap (λ n. cond (nat_lt n (length types)) (Some n) None) r.0 ∙ ap (λ b. cond b (Some i) None) (lt-ltb i
    (length types) r.1) in
    record { number = i; is = ap (λ o. option_and_then (λ n. option_map (as-numbered n) (slice_get types n)) o) p ∙ ap (option_map (as-numbered i)) e }

all-known : (types ds : List TypeDecl) → ((i : ℕ) (d : TypeDecl) → slice_get ds i ≡ Some d → Known types d) → Knows types ds
all-known types [] h = tt
all-known types (d ∷ ds) h = (h 0 d refl, all-known types ds (λ i x e. h (suc i) x e))

pub types-known : (low high : ℕ) (ts : List Token) (u : CompilationUnit) → RiseWithin low high ts → IsUnitOf (signs ts) u → Knows u.types u.types
types-known low high ts u h is =
    all-known u.types u.types (known-at low u.types (sub_above low (braces_of u.types) (left_braces (signs ts)) (unit_braces (signs ts) u is)
    (braces-above low high ts h)))
