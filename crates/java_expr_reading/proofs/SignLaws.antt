-- What a tree says of keywords and symbols.
use Rattle.std.proofs.Common.{◌≡◌, ℕ, ◌+◌, ◌<◌, ◌≤◌, min, length, drop, slice_index_or, arith, Bool, true, false, cond, List, [], ◌∷◌, ◌++◌, map, Option, Some, None, refl, sym, ap, ◌∙◌, inl, inr}
use Rattle.std.proofs.lemmas.Bool.{cases_lt}
use Rattle.std.specs.Prelude.{◌↔◌, IsTrue}
use Rattle.std.specs.Str.{bytes_eq}
use Rattle.std.proofs.lemmas.Bool.Decides.{same_from_decides}
use Rattle.std.proofs.lemmas.Slice.Eq.{bytes_eq-Decides}
use Rattle.java_tree.specs.declared.mark.Mark.{Mark}
use Rattle.java_tree.specs.declared.mark.Mark.TheVariants as marks
use Rattle.java_tree.specs.declared.names.Literal.TheVariants as literals
use Rattle.java_tree.specs.declared.token.Span.{Span}
use Rattle.std.proofs.lemmas.List.{drop_more, drop_all}
use Rattle.java_tree.specs.declared.token.TokenKind.{TokenKind}
use Rattle.java_tree.specs.declared.token.TokenKind.TheVariants as kinds
use Rattle.java_tree.specs.declared.words.TheConstants.{KEYWORDS, KEYWORD_MARKS, ADDED_KEYWORDS, ADDED_KEYWORD_MARKS, SEPARATORS, SEPARATOR_MARKS, OPERATORS, OPERATOR_MARKS}
use Rattle.java_model.specs.Grammar.Marks.{Spelling, spelled, mark_of, keywords, symbols}
use Rattle.java_expr_reading.specs.Input.{ident_in, literal_in}
use Rattle.java_model.specs.Grammar.Signs.{Sign, mark, left_brace, this, super, literal, stray, placed, keyword_sign, symbol_sign, sign_by}

-- a mark at its place is itself, but for `{`, `this` and `super`
pub placed_cases : (P : Sign → Type 0) (span : Span) → P stray → P (left_brace span.start) → P (this span) → P (super span)
    → ((m : Mark) → P (mark m)) → (o : Option Mark) → P (placed span o)
placed_cases P span none brace this_one super_one other None = none
placed_cases P span none brace this_one super_one other (Some marks.LeftBrace) = brace
placed_cases P span none brace this_one super_one other (Some marks.This) = this_one
placed_cases P span none brace this_one super_one other (Some marks.Super) = super_one
placed_cases P span none brace this_one super_one other (Some m) = other m

cond_cases : {X : Type 0} (P : X → Type 0) (b : Bool) (x y : X) → P x → P y → P (cond b x y)
cond_cases P b x y p q = elim b as (λ v. P (cond v x y)) [ true ↦ p | false ↦ q ]

-- a keyword is a literal or a mark at its place
pub keyword_cases : (P : Sign → Type 0) (name : List ℕ) (span : Span) → P (literal literals.True) → P (literal literals.False) → P (literal literals.Null)
    → ((o : Option Mark) → P (placed span o)) → P (keyword_sign name span)
unfolding keyword_sign
keyword_cases P name span t f n other =
    cond_cases P _ _ _ t (cond_cases P _ _ _ f (cond_cases P _ _ _ n (other _)))

-- the first of two marks
abbrev pub mark_of-or : Option Mark → Option Mark → Option Mark
mark_of-or None o = o
mark_of-or (Some m) o = Some m

-- the mark of a word is in the first list or in the second
mark_of-append_by : (b : Bool) (x : Spelling) (xs ys : List Spelling) (name : List ℕ)
    → (mark_of (xs ++ ys) name ≡ mark_of-or (mark_of xs name) (mark_of ys name))
    → cond b (Some x.mark) (mark_of (xs ++ ys) name) ≡ mark_of-or (cond b (Some x.mark) (mark_of xs name)) (mark_of ys name)
mark_of-append_by true x xs ys name e = refl
mark_of-append_by false x xs ys name e = e

pub mark_of-append : (xs ys : List Spelling) (name : List ℕ) → mark_of (xs ++ ys) name ≡ mark_of-or (mark_of xs name) (mark_of ys name)
mark_of-append [] ys name = refl
mark_of-append (x ∷ xs) ys name = mark_of-append_by (bytes_eq x.bytes name) x xs ys name (mark_of-append xs ys name)

-- a step through words and their marks
pub spelled-step : (ms : List Mark) (ws : List (List ℕ)) (at : ℕ) (m : Mark) (w : List ℕ) → at < length ms → at < length ws
    → spelled (drop at ms) (drop at ws) ≡ record { mark = slice_index_or ms at m; bytes = slice_index_or ws at w } ∷ spelled (drop (at + 1) ms) (drop (at + 1) ws)
spelled-step ms ws at m w b c = rw (drop_more ms at m b, drop_more ws at w c) refl

pub spelled-none : (ms : List Mark) → spelled ms [] ≡ []
spelled-none [] = refl
spelled-none (m ∷ ms) = refl

pub spelled-end : (ms : List Mark) (ws : List (List ℕ)) (at : ℕ) → min (length ws) (length ms) ≤ at → spelled (drop at ms) (drop at ws) ≡ []
spelled-end ms ws at h = elim (cases_lt at (length ms)) [
  | inr a ↦ rw (drop_all at ms a) refl
  | inl b ↦ (rw (drop_all at ws (omega (arith, h, b))) (spelled-none (drop at ms)))
]

-- nothing but a literal carries one
pub no_literal : (span : Span) (o : Option Mark) → None ≡ literal_in (Some (placed span o))
no_literal span = placed_cases (λ s. None ≡ literal_in (Some s)) span refl refl refl refl (λ m. refl)

pub no_ident : (span : Span) (o : Option Mark) → None ≡ ident_in (Some (placed span o))
no_ident span = placed_cases (λ s. None ≡ ident_in (Some s)) span refl refl refl refl (λ m. refl)

-- a test of words says whether they are the same
pub same_word : (xs ys : List ℕ) (b v : Bool) → (IsTrue b ↔ (xs ≡ ys)) → b ≡ v → bytes_eq xs ys ≡ v
same_word xs ys b v h e = same_from_decides {P = xs ≡ ys} (bytes_eq xs ys) b (bytes_eq-Decides xs ys) h ∙ e

-- a step through words finds the mark, or goes on
pub found_at : (ms : List Mark) (ws : List (List ℕ)) (name : List ℕ) (at : ℕ) (m : Mark) (w : List ℕ) → at < min (length ws) (length ms)
    → true ≡ bytes_eq (slice_index_or ws at w) name → Some (slice_index_or ms at m) ≡ mark_of (spelled (drop at ms) (drop at ws)) name
found_at ms ws name at m w b e = rw (spelled-step ms ws at m w (omega (arith, b)) (omega (arith, b)), sym e) refl

pub passed_at : (ms : List Mark) (ws : List (List ℕ)) (name : List ℕ) (at : ℕ) (m : Mark) (w : List ℕ) → at < min (length ws) (length ms)
    → false ≡ bytes_eq (slice_index_or ws at w) name → mark_of (spelled (drop at ms) (drop at ws)) name ≡ mark_of (spelled (drop (at + 1) ms) (drop (at + 1) ws)) name
passed_at ms ws name at m w b e = rw (spelled-step ms ws at m w (omega (arith, b)) (omega (arith, b)), sym e) refl

pub none_left : (ms : List Mark) (ws : List (List ℕ)) (name : List ℕ) (at : ℕ) → min (length ws) (length ms) ≤ at → None ≡ mark_of (spelled (drop at ms) (drop at ws)) name
none_left ms ws name at h = rw (spelled-end ms ws at h) refl

-- the mark of a word that stands in one of two lists
first_of_two : (xs ys : List Spelling) (name : List ℕ) (o : Option Mark) (m : Mark) → o ≡ mark_of xs name → o ≡ Some m → Some m ≡ mark_of (xs ++ ys) name
first_of_two xs ys name o m e f = sym (mark_of-append xs ys name ∙ ap (λ p. mark_of-or p (mark_of ys name)) (sym e ∙ f))

second_of_two : (xs ys : List Spelling) (name : List ℕ) (o p : Option Mark) → o ≡ mark_of xs name → o ≡ None → p ≡ mark_of ys name → p ≡ mark_of (xs ++ ys) name
second_of_two xs ys name o p e f g = g ∙ sym (mark_of-append xs ys name ∙ ap (λ q. mark_of-or q (mark_of ys name)) (sym e ∙ f))

pub first_keyword : (name : List ℕ) (o : Option Mark) (m : Mark) → o ≡ mark_of (spelled KEYWORD_MARKS (map (λ w. w.now) KEYWORDS)) name → o ≡ Some m → Some m ≡ mark_of keywords name
unfolding keywords
first_keyword name o m e f = first_of_two (spelled KEYWORD_MARKS (map (λ w. w.now) KEYWORDS)) (spelled ADDED_KEYWORD_MARKS (map (λ w. w.now) ADDED_KEYWORDS)) name o m e f

pub second_keyword : (name : List ℕ) (o p : Option Mark) → o ≡ mark_of (spelled KEYWORD_MARKS (map (λ w. w.now) KEYWORDS)) name → o ≡ None
    → p ≡ mark_of (spelled ADDED_KEYWORD_MARKS (map (λ w. w.now) ADDED_KEYWORDS)) name → p ≡ mark_of keywords name
unfolding keywords
second_keyword name o p e f g = second_of_two (spelled KEYWORD_MARKS (map (λ w. w.now) KEYWORDS)) (spelled ADDED_KEYWORD_MARKS (map (λ w. w.now) ADDED_KEYWORDS)) name o p e f g

pub second_symbol : (name : List ℕ) (o p : Option Mark) → o ≡ mark_of (spelled SEPARATOR_MARKS (map (λ w. w.now) SEPARATORS)) name → o ≡ None
    → p ≡ mark_of (spelled OPERATOR_MARKS (map (λ w. w.now) OPERATORS)) name → p ≡ mark_of symbols name
unfolding symbols
second_symbol name o p e f g = second_of_two (spelled SEPARATOR_MARKS (map (λ w. w.now) SEPARATORS)) (spelled OPERATOR_MARKS (map (λ w. w.now) OPERATORS)) name o p e f g

pub no_ident_by : (kind : TokenKind) (name : List ℕ) (span : Span) → (kind ≡ kinds.Identifier → ⊥) → None ≡ ident_in (Some (sign_by kind name span))
unfolding symbol_sign
no_ident_by kinds.Identifier name span h = absurd (h refl)
no_ident_by kinds.Keyword name span h = keyword_cases (λ s. None ≡ ident_in (Some s)) name span refl refl refl (no_ident span)
no_ident_by kinds.Symbol name span h = no_ident span _
no_ident_by kinds.IntLit name span h = refl
no_ident_by kinds.LongLit name span h = refl
no_ident_by kinds.FloatLit name span h = refl
no_ident_by kinds.DoubleLit name span h = refl
no_ident_by kinds.CharLit name span h = refl
no_ident_by kinds.StringLit name span h = refl

pub no_literal_by_symbol : (name : List ℕ) (span : Span) → None ≡ literal_in (Some (symbol_sign name span))
unfolding symbol_sign
no_literal_by_symbol name span = no_literal span _

pub symbol_placed : (name : List ℕ) (span : Span) → placed span (mark_of symbols name) ≡ symbol_sign name span
unfolding symbol_sign
symbol_placed name span = refl

pub no_literal_by : (kind : TokenKind) (name : List ℕ) (span : Span) → (kind ≡ kinds.Keyword → ⊥) → (kind ≡ kinds.IntLit → ⊥) → (kind ≡ kinds.LongLit → ⊥)
    → (kind ≡ kinds.FloatLit → ⊥) → (kind ≡ kinds.DoubleLit → ⊥) → (kind ≡ kinds.CharLit → ⊥) → (kind ≡ kinds.StringLit → ⊥)
    → None ≡ literal_in (Some (sign_by kind name span))
no_literal_by kinds.Identifier name span k i l f d c s = refl
no_literal_by kinds.Symbol name span k i l f d c s = no_literal_by_symbol name span
no_literal_by kinds.Keyword name span k i l f d c s = absurd (k refl)
no_literal_by kinds.IntLit name span k i l f d c s = absurd (i refl)
no_literal_by kinds.LongLit name span k i l f d c s = absurd (l refl)
no_literal_by kinds.FloatLit name span k i l f d c s = absurd (f refl)
no_literal_by kinds.DoubleLit name span k i l f d c s = absurd (d refl)
no_literal_by kinds.CharLit name span k i l f d c s = absurd (c refl)
no_literal_by kinds.StringLit name span k i l f d c s = absurd (s refl)
