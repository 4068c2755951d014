-- How tokens are read from left to right: what a reader gives, and the steps that each is made of.
use Rattle.std.specs.Prelude.{ℕ, zero, suc, Bool, true, false, cond, List, [], ◌∷◌, ◌++◌, length, Option, Some, None}
use Rattle.java_tree.specs.declared.mark.Mark.{Mark}
use Rattle.java_tree.specs.declared.names.Ident.{Ident}
use Rattle.java_tree.specs.declared.unit.TypeDecl.{TypeDecl}
use Rattle.java_model.specs.Grammar.Signs.{Sign, mark, left_brace, word}
use Rattle.java_expr_reading.specs.Shapes.{same_mark}

-- the types of the unit that begin before a place, and the tokens from there on
pub record State : Type 0 where
  pub types : List TypeDecl
  pub tokens : List Sign

abbrev pub state : List TypeDecl → List Sign → State
state types tokens = record { types = types; tokens = tokens }

-- what a reader gives: a tree and where it ends, or that none stands there
pub data Outcome (A : Type 0) : Type 0 where
  Done : A → State → Outcome A
  Fail : Outcome A

abbrev pub Parser : Type 0 → Type 0
Parser A = State → Outcome A

abbrev pub and_then : {A B : Type 0} → Outcome A → (A → Parser B) → Outcome B
and_then (Done x s) f = f x s
and_then Fail f = Fail

infixl 10 ◌>>=◌
abbrev pub ◌>>=◌ : {A B : Type 0} → Parser A → (A → Parser B) → Parser B
p >>= f = λ s. and_then (p s) f

infixl 10 ◌>>◌
abbrev pub ◌>>◌ : {A B : Type 0} → Parser A → Parser B → Parser B
p >> q = λ s. and_then (p s) (λ _. q)

abbrev pub pure : {A : Type 0} → A → Parser A
pure x = λ s. Done x s

abbrev pub refuse : {A : Type 0} → Parser A
refuse = λ s. Fail

-- one reader where a test holds, else another one
abbrev pub choose : {A : Type 0} → (List Sign → Bool) → Parser A → Parser A → Parser A
choose test p q = λ s. cond (test s.tokens) (p s) (q s)

-- whether the next token is this mark
unfoldable pub sees : Mark → List Sign → Bool
sees m [] = false
sees m (mark n ∷ ts) = same_mark n m
sees m (_ ∷ ts) = false

-- whether a `{` comes next
abbrev pub sees_brace : List Sign → Bool
sees_brace (left_brace at ∷ ts) = true
sees_brace _ = false

abbrev pub tail : List Sign → List Sign
tail [] = []
tail (t ∷ ts) = ts

-- passes a token
abbrev pub next : State → State
next s = state s.types (tail s.tokens)

-- a mark
unfoldable pub expect : Mark → Parser (Unit {0})
expect m s = cond (sees m s.tokens) (Done tt (next s)) Fail

-- a mark, where it stands
unfoldable pub eat : Mark → Parser Bool
eat m s = cond (sees m s.tokens) (Done true (next s)) (Done false s)

-- a `{`, by its offset
abbrev pub brace_in : List TypeDecl → List Sign → Outcome ℕ
brace_in types (left_brace at ∷ ts) = Done at (state types ts)
brace_in types _ = Fail

unfoldable pub brace : Parser ℕ
brace s = brace_in s.types s.tokens

-- an identifier (JLS 3.8)
abbrev pub word_in : List TypeDecl → List Sign → Outcome Ident
word_in types (word i ∷ ts) = Done i (state types ts)
word_in types _ = Fail

unfoldable pub identifier : Parser Ident
identifier s = word_in s.types s.tokens

-- what a mark introduces, where it stands
abbrev pub introduced : {A : Type 0} → Mark → Parser A → Parser (Option A)
introduced m p = choose (sees m) (expect m >> (p >>= λ x. pure (Some x))) (pure None)

-- what follows an item
abbrev pub many_more : {A : Type 0} → (List A → Parser (List A)) → List A → Option A → Parser (List A)
many_more again found None = pure found
many_more again found (Some x) = again (found ++ x ∷ [])

-- Items up to the place where no further one begins, behind those that were found, with at most so many
-- steps. Each item takes a token or more.
unfoldable pub many : {A : Type 0} → Parser (Option A) → ℕ → List A → Parser (List A)
many item zero found s = Fail
many item (suc n) found s = and_then (item s) (many_more (many item n) found)

abbrev pub list_from : {A : Type 0} → Parser (Option A) → List A → Parser (List A)
list_from item found = λ s. many item (suc (length s.tokens)) found s

abbrev pub list : {A : Type 0} → Parser (Option A) → Parser (List A)
list item = list_from item []

-- an item behind a comma
abbrev pub unless : {A : Type 0} → (List Sign → Bool) → Parser A → Parser (Option A)
unless ends p = choose ends (pure None) (p >>= λ x. pure (Some x))
