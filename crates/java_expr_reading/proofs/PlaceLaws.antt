-- Places in a list of tokens.
use Rattle.std.proofs.Common.{◌≡◌, ◌≢◌, ℕ, zero, suc, ◌+◌, ◌-◌, ◌<◌, ◌≤◌, ◌++◌, List, [], ◌∷◌, length, drop, map, slice_index_or, Option, Some, None, refl, sym, ap, ◌∙◌, subst, arith}
use Rattle.std.proofs.lemmas.List.{length-map, length-drop}
use Rattle.java_tree.specs.declared.token.Token.{Token}
use Rattle.java_tree.specs.declared.token.TokenKind.{TokenKind}
use Rattle.java_tree.specs.declared.token.TokenKind.TheVariants as kinds
use Rattle.java_tree.specs.declared.token.Span.{Span}
use Rattle.java_tree.specs.declared.mark.Mark.{Mark}
use Rattle.java_model.specs.Grammar.Signs.{Sign, sign, signs, sign_by, symbol_sign, placed}
use Rattle.java_expr_reading.specs.Shapes.{shape_of, shape_by}
use Rattle.java_model.specs.Grammar.Runs.{after_body}
use Rattle.java_expr_reading.specs.declared.parsed.PendingBody.{PendingBody}
use Rattle.java_expr_reading.specs.Input.{Input, Done, first_of, this_in, super_in, offset_in, body, past_body, body_at}
use Rattle.java_expr_reading.specs.Input as spec
use Rattle.java_expr_reading.proofs.SignLaws.{placed_cases, keyword_cases}
use Rattle.java_expr_reading.specs.declared.shape.Shape.{Shape}
use Rattle.java_expr_reading.specs.declared.shape.Shape.TheVariants as shapes

-- the shape at a place is that of the token there
pub shape_at : (ts : List Sign) (at : ℕ) (d : Shape) → at < length ts → slice_index_or (map shape_of ts) at d ≡ shape_by (first_of (drop at ts))
shape_at [] at d below = absurd (omega (arith, below))
shape_at (t ∷ ts) zero d below = refl
shape_at (t ∷ ts) (suc at) d below = shape_at ts at d (omega (arith, below))

pub shape_past : (ts : List Sign) (at : ℕ) → length ts ≤ at → shapes.End ≡ shape_by (first_of (drop at ts))
shape_past [] zero past = refl
shape_past [] (suc at) past = refl
shape_past (t ∷ ts) zero past = absurd (omega (arith, past))
shape_past (t ∷ ts) (suc at) past = shape_past ts at (omega (arith, past))

pub drop_one : {X : Type 0} (ts : List X) (at : ℕ) → drop (at + 1) ts ≡ drop 1 (drop at ts)
drop_one [] zero = refl
drop_one [] (suc at) = let e : suc at + 1 ≡ suc (at + 1) = omega arith in rw e refl
drop_one (t ∷ ts) zero = refl
drop_one (t ∷ ts) (suc at) = let e : suc at + 1 ≡ suc (at + 1) = omega arith in rw e (drop_one ts at)

pub drop_two : {X : Type 0} (ts : List X) (at : ℕ) → drop (at + 2) ts ≡ drop 1 (drop 1 (drop at ts))
drop_two ts at = let e : at + 2 ≡ (at + 1) + 1 = omega arith in rw e (drop_one ts (at + 1) ∙ ap (drop 1) (drop_one ts at))

-- a token stands at a place before the end
pub some_left : (ts : List Sign) (at : ℕ) → shape_by (first_of (drop at ts)) ≢ shapes.End → at + 1 ≤ length ts
some_left [] zero some = absurd (some refl)
some_left [] (suc at) some = absurd (some refl)
some_left (t ∷ ts) zero some = omega arith
some_left (t ∷ ts) (suc at) some = omega (arith, some_left ts at some)

pub shape_read : (ts : List Sign) (all : List Shape) (at : ℕ) (d : Shape) → all ≡ map shape_of ts → at < length all → slice_index_or all at d ≡ shape_by (first_of (drop at ts))
shape_read ts all at d e below =
    ap (λ xs. slice_index_or xs at d) e ∙ shape_at ts at d (omega (arith, below, ap length e, length-map ts shape_of))

pub shape_unread : (ts : List Sign) (all : List Shape) (at : ℕ) → all ≡ map shape_of ts → length all ≤ at → shapes.End ≡ shape_by (first_of (drop at ts))
shape_unread ts all at e past = shape_past ts at (omega (arith, past, ap length e, length-map ts shape_of))

-- the token at a place
pub token_at : (ts : List Token) (at : ℕ) (d : Token) → at < length ts → Some (sign (slice_index_or ts at d)) ≡ first_of (drop at (signs ts))
token_at [] at d below = absurd (omega (arith, below))
token_at (t ∷ ts) zero d below = refl
token_at (t ∷ ts) (suc at) d below = token_at ts at d (omega (arith, below))

pub no_token_at : (ts : List Token) (at : ℕ) → length ts ≤ at → None ≡ first_of (drop at (signs ts))
no_token_at [] zero past = refl
no_token_at [] (suc at) past = refl
no_token_at (t ∷ ts) zero past = absurd (omega (arith, past))
no_token_at (t ∷ ts) (suc at) past = no_token_at ts at (omega (arith, past))

-- what a sign carries of its token's span
abbrev pub CarriesSpan : Span → Sign → Type 0
CarriesSpan span s =
    (shape_of s ≡ shapes.This → this_in (Some s) ≡ Some span)
    × (shape_of s ≡ shapes.Super → super_in (Some s) ≡ Some span)
    × (shape_of s ≡ shapes.LeftBrace → offset_in (Some s) ≡ Some span.start)

carries_placed : (span : Span) (o : Option Mark) → CarriesSpan span (placed span o)
carries_placed span = placed_cases (CarriesSpan span) span
    (λ e. absurd cc, λ e. absurd cc, λ e. absurd cc)
    (λ e. absurd cc, λ e. absurd cc, λ e. refl)
    (λ e. refl, λ e. absurd cc, λ e. absurd cc)
    (λ e. absurd cc, λ e. refl, λ e. absurd cc)
    (λ m. (λ e. absurd cc, λ e. absurd cc, λ e. absurd cc))

carries_symbol : (name : List ℕ) (span : Span) → CarriesSpan span (symbol_sign name span)
unfolding symbol_sign
carries_symbol name span = carries_placed span _

pub carries_by : (kind : TokenKind) (name : List ℕ) (span : Span) → CarriesSpan span (sign_by kind name span)
carries_by kinds.Keyword name span = keyword_cases (CarriesSpan span) name span
    (λ e. absurd cc, λ e. absurd cc, λ e. absurd cc) (λ e. absurd cc, λ e. absurd cc, λ e. absurd cc) (λ e. absurd cc, λ e. absurd cc, λ e. absurd cc)
    (carries_placed span)
carries_by kinds.Symbol name span = carries_symbol name span
carries_by kinds.Identifier name span = (λ e. absurd cc, λ e. absurd cc, λ e. absurd cc)
carries_by kinds.IntLit name span = (λ e. absurd cc, λ e. absurd cc, λ e. absurd cc)
carries_by kinds.LongLit name span = (λ e. absurd cc, λ e. absurd cc, λ e. absurd cc)
carries_by kinds.FloatLit name span = (λ e. absurd cc, λ e. absurd cc, λ e. absurd cc)
carries_by kinds.DoubleLit name span = (λ e. absurd cc, λ e. absurd cc, λ e. absurd cc)
carries_by kinds.CharLit name span = (λ e. absurd cc, λ e. absurd cc, λ e. absurd cc)
carries_by kinds.StringLit name span = (λ e. absurd cc, λ e. absurd cc, λ e. absurd cc)

-- the same at a place
abbrev pub CarriesSpanAt : Span → Option Sign → Type 0
CarriesSpanAt span o =
    (shape_by o ≡ shapes.This → this_in o ≡ Some span)
    × (shape_by o ≡ shapes.Super → super_in o ≡ Some span)
    × (shape_by o ≡ shapes.LeftBrace → offset_in o ≡ Some span.start)

pub carries_at : (ts : List Token) (at : ℕ) (d : Token) → at < length ts → CarriesSpanAt (slice_index_or ts at d).span (first_of (drop at (signs ts)))
carries_at ts at d below =
    let t = slice_index_or ts at d in subst (CarriesSpanAt t.span) (token_at ts at d below) (carries_by t.kind t.name t.span)

pub carries_none : (ts : List Token) (at : ℕ) (span : Span) → length ts ≤ at → CarriesSpanAt span (first_of (drop at (signs ts)))
carries_none ts at span past =
    let none : CarriesSpanAt span None = (λ e. absurd cc, λ e. absurd cc, λ e. absurd cc) in subst (CarriesSpanAt span) (no_token_at ts at past) none

-- behind a body stands what comes after its `}`
passes_at : (rest after : List Sign) (at end depth_left start : ℕ) (bodies : List PendingBody) → offset_in (first_of rest) ≡ Some start
    → after ≡ after_body (drop 1 rest) zero → at + (length rest - length after) ≡ end
    → body depth_left (record { rest = rest; at = at; bodies = bodies })
    ≡ Done start (record { rest = after; at = end; bodies = bodies ++ record { first = at; last = end - 1; depth = 256 - depth_left } ∷ [] })
unfolding body past_body spec.sign
passes_at rest after at end depth_left start bodies o a e = rw (o, sym a, e) refl

pub passes_body : (ts : List Sign) (at end depth_left start : ℕ) (bodies : List PendingBody) → offset_in (first_of (drop at ts)) ≡ Some start
    → drop end ts ≡ after_body (drop (at + 1) ts) zero → at + 1 ≤ end → end ≤ length ts
    → body depth_left (record { rest = drop at ts; at = at; bodies = bodies })
    ≡ Done start (record { rest = drop end ts; at = end; bodies = bodies ++ record { first = at; last = end - 1; depth = 256 - depth_left } ∷ [] })
passes_body ts at end depth_left start bodies o a low high =
    passes_at (drop at ts) (drop end ts) at end depth_left start bodies o (a ∙ ap (λ us. after_body us zero) (drop_one ts at))
    (omega (arith, length-drop at ts, length-drop end ts, low, high))
