-- The `{` of a text's tokens rise, and so do those of its unit's types.
use Rattle.std.proofs.Common.{◌≡◌, ◌+◌, ◌<◌, ◌≤◌, ℕ, zero, suc, Bool, true, false, cond, codes, List, [], ◌∷◌, ◌++◌, Option, Some, None, length, get_or, refl, sym, subst, arith}
use Rattle.std.specs.Str.{bytes_eq}
use Rattle.java_tree.specs.declared.mark.Mark.{Mark}
use Rattle.java_tree.specs.declared.mark.Mark.TheVariants as marks
use Rattle.java_tree.specs.declared.names.Literal.{Literal}
use Rattle.java_tree.specs.declared.names.Literal.TheVariants as literals
use Rattle.java_tree.specs.declared.outline.Level.{Level}
use Rattle.java_tree.specs.declared.token.Span.{Span}
use Rattle.java_tree.specs.declared.token.Token.{Token}
use Rattle.java_tree.specs.declared.token.TokenKind.{TokenKind}
use Rattle.java_tree.specs.declared.token.TokenKind.TheVariants as kinds
use Rattle.java_tree.specs.declared.unit.Unit.{Unit as CompilationUnit}
use Rattle.java_model.specs.Lexical.Elements.{Element}
use Rattle.java_model.specs.Lexical.Elements.Element.{white_space, traditional_comment, end_of_line_comment, token}
use Rattle.java_model.specs.Lexical.Escapes.{Input, width_of}
use Rattle.java_model.specs.Lexical.Tokens.{token_at, with_element, AreElements, HasTokens}
use Rattle.java_model.specs.Lexical.Tokens.AreElements.{none, next}
use Rattle.java_model.specs.Grammar.Braces.{left_braces, braces_of, IsSublist, none_of, takes, skips}
use Rattle.java_model.specs.Grammar.Signs.{Sign, mark, left_brace, this, super, word, literal, stray, placed, keyword_sign, symbol_sign, sign_by, sign, signs}
use Rattle.java_model.specs.Grammar.Marks.{mark_of, keywords, symbols}
use Rattle.java_model.proofs.Grammar.Braces.{unit_braces}
use Rattle.java_model.proofs.Lexical.NextLaws.{front_some}
use Rattle.java_model.proofs.Lexical.Spans.{AreWide, inputs_wide, sub_wide, wide_front, wide_after}
use Rattle.java_document.specs.Outlining.{Rises}
use Rattle.java_document.specs.Readings.{IsUnitOfAText}

-- numbers from a bound on, each above the one before
abbrev pub Above : ℕ → List ℕ → Type 0
Above low [] = Unit {0}
Above low (x ∷ xs) = (low ≤ x) × Above (suc x) xs

weaker : (low high : ℕ) (xs : List ℕ) → low ≤ high → Above high xs → Above low xs
weaker low high [] h a = tt
weaker low high (x ∷ xs) h a = let first = a.0 in (omega (arith, h, first), a.1)

with_sign : (x : Sign) (ts : List Sign) (low start : ℕ) → ((at : ℕ) → x ≡ left_brace at → at ≡ start) → low ≤ start → Above (suc start) (left_braces ts) → Above low (left_braces (x ∷ ts))
with_sign (left_brace at) ts low start place h a = let same = place at refl in (omega (arith, same, h), subst (λ n. Above (suc n) (left_braces ts)) (sym same) a)
with_sign (mark m) ts low start place h a = weaker low (suc start) (left_braces ts) (omega (arith, h)) a
with_sign (this s) ts low start place h a = weaker low (suc start) (left_braces ts) (omega (arith, h)) a
with_sign (super s) ts low start place h a = weaker low (suc start) (left_braces ts) (omega (arith, h)) a
with_sign (word i) ts low start place h a = weaker low (suc start) (left_braces ts) (omega (arith, h)) a
with_sign (literal l) ts low start place h a = weaker low (suc start) (left_braces ts) (omega (arith, h)) a
with_sign stray ts low start place h a = weaker low (suc start) (left_braces ts) (omega (arith, h)) a

placed_at : (span : Span) (m : Option Mark) (at : ℕ) → placed span m ≡ left_brace at → at ≡ span.start
placed_at span None at e = cc
placed_at span (Some marks.LeftBrace) at e = cc
placed_at span (Some m) at e = cc

other_word : (b : Bool) (l : Literal) (y : Sign) (at : ℕ) → cond b (literal l) y ≡ left_brace at → y ≡ left_brace at
other_word true l y at e = cc
other_word false l y at e = e

keyword_at : (name : List ℕ) (span : Span) (at : ℕ) → keyword_sign name span ≡ left_brace at → at ≡ span.start
unfolding keyword_sign
keyword_at name span at e =
    placed_at span (mark_of keywords name) at
    (other_word (bytes_eq (codes "null") name) literals.Null (placed span (mark_of keywords name)) at
    (other_word (bytes_eq (codes "false") name) literals.False (cond (bytes_eq (codes "null") name) (literal literals.Null) (placed span (mark_of keywords name))) at
    (other_word (bytes_eq (codes "true") name) literals.True
    (cond (bytes_eq (codes "false") name) (literal literals.False) (cond (bytes_eq (codes "null") name) (literal literals.Null) (placed span (mark_of keywords name)))) at e)))

symbol_at : (name : List ℕ) (span : Span) (at : ℕ) → symbol_sign name span ≡ left_brace at → at ≡ span.start
unfolding symbol_sign
symbol_at name span at e = placed_at span (mark_of symbols name) at e

kind_at : (k : TokenKind) (name : List ℕ) (span : Span) (at : ℕ) → sign_by k name span ≡ left_brace at → at ≡ span.start
kind_at kinds.Keyword name span at e = keyword_at name span at e
kind_at kinds.Symbol name span at e = symbol_at name span at e
kind_at kinds.Identifier name span at e = cc
kind_at kinds.IntLit name span at e = cc
kind_at kinds.LongLit name span at e = cc
kind_at kinds.FloatLit name span at e = cc
kind_at kinds.DoubleLit name span at e = cc
kind_at kinds.CharLit name span at e = cc
kind_at kinds.StringLit name span at e = cc

-- a token that is a `{` stands at its offset
sign_place : (t : Token) (at : ℕ) → sign t ≡ left_brace at → at ≡ t.span.start
sign_place t at e = kind_at t.kind t.name t.span at e

pub sub_above : (low : ℕ) (xs ys : List ℕ) → IsSublist xs ys → Above low ys → Above low xs
sub_above low [] ys (none_of _) a = tt
sub_above low (x ∷ xs) (x' ∷ ys) (takes _ _ _ s) a = (a.0, sub_above (suc x) xs ys s a.1)
sub_above low xs (y ∷ ys) (skips _ _ _ s) a = let first = a.0 in weaker low (suc y) xs (omega (arith, first)) (sub_above (suc y) xs ys s a.1)

-- an element, which takes a byte or more, before tokens
rise_on : (e : Element) (at low : ℕ) (front : List Input) (tokens : List Token) → low ≤ at → 0 < width_of front → ((l : ℕ) → l ≤ at + width_of front → Above l (left_braces (signs tokens)))
    → Above low (left_braces (signs (with_element e at front tokens)))
rise_on white_space at low front tokens l w rest = rest low (omega arith)
rise_on traditional_comment at low front tokens l w rest = rest low (omega arith)
rise_on end_of_line_comment at low front tokens l w rest = rest low (omega arith)
rise_on (token kind) at low front tokens l w rest =
    let t = token_at kind at front in
    with_sign (sign t) (signs tokens) low at (sign_place t) l (rest (suc at) (omega (arith, w)))

elements_above : {level : Level} {at : ℕ} {inputs : List Input} {tokens : List Token} {end : ℕ} {rest : List Input} → AreElements level at inputs tokens end rest → AreWide inputs
    → (low : ℕ) → low ≤ at → Above low (left_braces (signs tokens))
elements_above (none {at = at} {inputs = inputs}) w low l = tt
elements_above {level} (next {at = at} {inputs = inputs} {tokens = tokens} element front after is walk) w low l =
    let split : AreWide (front ++ after) = subst AreWide is.parted w in
    let some = wide_front front after split (front_some level inputs element front after is) in
    rise_on element at low front tokens l some (λ m h. elements_above walk (wide_after front after split) m h)

-- whatever the bytes of the text
pub text_above : (level : Level) (text : List ℕ) (tokens : List Token) → HasTokens level text tokens → Above 0 (left_braces (signs tokens))
text_above level text tokens h = elements_above h.elements (sub_wide h.inputs (inputs_wide text h.inputs h.characters)) 0 (omega arith)

all_above : (xs : List ℕ) (low j : ℕ) → Above low xs → j < length xs → low ≤ get_or xs j 0
all_above [] low j a h = absurd (omega (arith, h))
all_above (x ∷ xs) low zero a h = a.0
all_above (x ∷ xs) low (suc j) a h = let first = a.0 in let later = all_above xs (suc x) j a.1 (omega (arith, h)) in omega (arith, first, later)

below : (xs : List ℕ) (low i j : ℕ) → Above low xs → i < j → j < length xs → get_or xs i 0 < get_or xs j 0
below [] low i j a h l = absurd (omega (arith, l))
below (x ∷ xs) low i zero a h l = absurd (omega (arith, h))
below (x ∷ xs) low zero (suc j) a h l = let later = all_above xs (suc x) j a.1 (omega (arith, l)) in omega (arith, later)
below (x ∷ xs) low (suc i) (suc j) a h l = below xs (suc x) i j a.1 (omega (arith, h)) (omega (arith, l))

pub unit_rises : (u : CompilationUnit) → IsUnitOfAText u → Rises (braces_of u.types)
unit_rises u h =
    let all = text_above h.0 h.1 h.3.tokens h.3.scanned in
    let above = sub_above 0 (braces_of u.types) (left_braces (signs h.3.tokens)) (unit_braces (signs h.3.tokens) u h.3.unit) all in
    record { below = λ i j lt l. below (braces_of u.types) 0 i j above lt l }
