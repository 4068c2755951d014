-- What a parser reads from, and the steps that every production is made of.
use Rattle.std.specs.Prelude.{◌≡◌, ◌≢◌, ℕ, zero, suc, ◌+◌, ◌-◌, Bool, if◌then◌else◌, List, [], ◌∷◌, ◌++◌, length, drop, Option, Some, None, Result, Ok, Err}
use Rattle.java_tree.specs.declared.mark.Mark.{Mark}
use Rattle.java_tree.specs.declared.names.Ident.{Ident}
use Rattle.java_tree.specs.declared.names.Literal.{Literal}
use Rattle.java_tree.specs.declared.token.Span.{Span}
use Rattle.java_model.specs.Grammar.Signs.{Sign, left_brace, this, super, word, literal}
use Rattle.java_model.specs.Grammar.Runs.{after_body}
use Rattle.java_expr_reading.specs.Shapes.{shape_by, is_mark}
use Rattle.java_expr_reading.specs.declared.shape.Shape.{Shape}
use Rattle.java_expr_reading.specs.declared.parsed.PendingBody.{PendingBody}
use Rattle.java_expr_reading.specs.declared.fault.ExprFault.{ExprFault}
use Rattle.java_expr_reading.specs.declared.fault.ExprFault.TheVariants.{NoMemory}

pub record Input : Type 0 where
  -- the tokens that are left
  pub rest : List Sign
  -- how many stand before them
  pub at : ℕ
  -- the bodies of anonymous classes so far
  pub bodies : List PendingBody

abbrev pub first_of : List Sign → Option Sign
first_of [] = None
first_of (t ∷ ts) = Some t

-- the next token
unfoldable pub sign : Input → Option Sign
sign i = first_of i.rest

abbrev pub shape : Input → Shape
shape i = shape_by (sign i)

-- how many tokens are left
unfoldable pub left : Input → ℕ
left i = length i.rest

-- behind the next token
unfoldable pub next : Input → Input
next i = record { rest = drop 1 i.rest; at = i.at + 1; bodies = i.bodies }

-- behind the body that begins with the next token, with so much of the depth left around it
unfoldable pub past_body : ℕ → Input → Input
past_body depth_left i =
    let rest = after_body (drop 1 i.rest) zero in
    let at = i.at + (length i.rest - length rest) in
    record { rest = rest; at = at; bodies = i.bodies ++ record { first = i.at; last = at - 1; depth = 256 - depth_left } ∷ [] }

-- the same tokens, to look ahead: with no body so far
unfoldable pub looking : Input → Input
looking i = record { rest = i.rest; at = i.at; bodies = [] }

-- ---- parsers

pub data Outcome (A : Type 0) : Type 0 where
  Done : A → Input → Outcome A
  Fail : Outcome A

abbrev pub Parser : Type 0 → Type 0
Parser A = Input → Outcome A

abbrev pub and_then : {A B : Type 0} → Outcome A → (A → Parser B) → Outcome B
and_then (Done x i) f = f x i
and_then Fail f = Fail

infixr 10 ◌>>=◌
abbrev pub ◌>>=◌ : {A B : Type 0} → Parser A → (A → Parser B) → Parser B
p >>= f = λ i. and_then (p i) f

infixr 10 ◌>>◌
abbrev pub ◌>>◌ : {A B : Type 0} → Parser A → Parser B → Parser B
p >> q = λ i. and_then (p i) (λ x. q)

abbrev pub pure : {A : Type 0} → A → Parser A
pure x = λ i. Done x i

abbrev pub fail : {A : Type 0} → Parser A
fail = λ i. Fail

-- takes the next token, whatever it is
abbrev pub take : Parser (Unit {0})
take = λ i. Done tt (next i)

unfoldable pub sees : Mark → Input → Bool
sees m i = is_mark m (shape i)

unfoldable pub expect : Mark → Parser (Unit {0})
expect m = λ i. if sees m i then Done tt (next i) else Fail

-- what a sign carries
abbrev pub ident_in : Option Sign → Option Ident
ident_in (Some (word w)) = Some w
ident_in _ = None

abbrev pub literal_in : Option Sign → Option Literal
literal_in (Some (literal l)) = Some l
literal_in _ = None

abbrev pub this_in : Option Sign → Option Span
this_in (Some (this s)) = Some s
this_in _ = None

abbrev pub super_in : Option Sign → Option Span
super_in (Some (super s)) = Some s
super_in _ = None

abbrev pub offset_in : Option Sign → Option ℕ
offset_in (Some (left_brace at)) = Some at
offset_in _ = None

-- takes the next token, if it carries that
abbrev pub taken : {A : Type 0} → Option A → Parser A
taken (Some x) = λ i. Done x (next i)
taken None = fail

unfoldable pub ident : Parser Ident
ident = λ i. taken (ident_in (sign i)) i

unfoldable pub a_literal : Parser Literal
a_literal = λ i. taken (literal_in (sign i)) i

unfoldable pub a_this : Parser Span
a_this = λ i. taken (this_in (sign i)) i

unfoldable pub a_super : Parser Span
a_super = λ i. taken (super_in (sign i)) i

-- `{`, with its offset
unfoldable pub brace : Parser ℕ
brace = λ i. taken (offset_in (sign i)) i

-- a body, with the offset of its `{`
abbrev pub body_at : ℕ → Option ℕ → Parser ℕ
body_at depth_left (Some at) = λ i. Done at (past_body depth_left i)
body_at depth_left None = fail

unfoldable pub body : ℕ → Parser ℕ
body depth_left = λ i. body_at depth_left (offset_in (sign i)) i

-- ---- lists. An item answers None, having taken nothing, where no further one begins. The number bounds
-- the turns; each but the last takes a token.

abbrev pub many_turn : {A : Type 0} → List A → (List A → Parser (List A)) → Option A → Parser (List A)
many_turn found again None = pure found
many_turn found again (Some x) = again (found ++ x ∷ [])

unfoldable pub many_from : {A : Type 0} → Parser (Option A) → ℕ → List A → Parser (List A)
many_from item zero found = fail
many_from item (suc n) found = item >>= many_turn found (many_from item n)

unfoldable pub many : {A : Type 0} → Parser (Option A) → List A → Parser (List A)
many item found = λ i. many_from item (suc (left i)) found i

-- ---- what a function that parses ensures: the outcome, unless memory ran out

abbrev pub Gives : {A : Type 0} → Outcome A → Result A ExprFault → Input → Type 0
Gives outcome (Ok x) new = outcome ≡ Done x new
Gives outcome (Err e) new = e ≢ NoMemory → outcome ≡ Fail
