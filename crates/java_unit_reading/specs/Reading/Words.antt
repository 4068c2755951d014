-- How names, types and modifiers are read.
use Rattle.std.specs.Prelude.{ℕ, zero, suc, Bool, true, false, ◌&&◌, cond, List, [], ◌∷◌, length, Option, Some, None, is_some}
use Rattle.java_tree.specs.declared.mark.Mark.{Mark}
use Rattle.java_tree.specs.declared.mark.Mark.TheVariants as marks
use Rattle.java_tree.specs.declared.names.ElementType.{ElementType}
use Rattle.java_tree.specs.declared.names.ElementType.TheVariants as elements
use Rattle.java_tree.specs.declared.names.Ident.{Ident}
use Rattle.java_tree.specs.declared.names.Modifier.{Modifier}
use Rattle.java_tree.specs.declared.names.Primitive.{Primitive}
use Rattle.java_tree.specs.declared.names.TypeUse.{TypeUse}
use Rattle.java_model.specs.Grammar.Signs.{Sign, mark, word}
use Rattle.java_model.specs.Grammar.Readings.{primitive_of, modifier_of}
use Rattle.java_unit_reading.specs.Reading.Steps.{Done, Fail, Parser, and_then, ◌>>=◌, ◌>>◌, pure, choose, sees, tail, next, expect, identifier, introduced, list, list_from}

abbrev pub is_word : List Sign → Bool
is_word (word i ∷ ts) = true
is_word _ = false

-- `.` Id, where the two stand: a `.` before another token ends a name
abbrev pub is_dotted : List Sign → Bool
is_dotted ts = sees marks.Dot ts && is_word (tail ts)

unfoldable pub dotted : Parser (Option Ident)
dotted s = cond (is_dotted s.tokens) (and_then (identifier (next s)) (λ i. pure (Some i))) (Done None s)

-- Name = Id {'.' Id} (JLS 6.2)
unfoldable pub name : Parser (List Ident)
name = identifier >>= λ i. list_from dotted (i ∷ [])

-- ',' Name
unfoldable pub comma_name : Parser (Option (List Ident))
comma_name = introduced marks.Comma name

-- Names = Name {',' Name}
unfoldable pub names : Parser (List (List Ident))
names = name >>= λ n. list_from comma_name (n ∷ [])

-- a word and the names that it introduces
unfoldable pub clause : Mark → Parser (List (List Ident))
clause m = choose (sees m) (expect m >> names) (pure [])

-- Dims = {'[' ']'} (JLS 10.1), behind so many
unfoldable pub dims_from : ℕ → ℕ → Parser ℕ
dims_from zero k s = Fail
dims_from (suc n) k s =
    cond (sees marks.LeftBracket s.tokens)
    (and_then (expect marks.LeftBracket s) (λ _ t. and_then (expect marks.RightBracket t) (λ _. dims_from n (suc k)))) (Done k s)

unfoldable pub dims : Parser ℕ
dims s = dims_from (suc (length s.tokens)) zero s

-- the next token by its mark, if it has one
abbrev pub primitive_at : List Sign → Option Primitive
primitive_at (mark m ∷ ts) = primitive_of m
primitive_at _ = None

abbrev pub element_by : Option Primitive → Parser ElementType
element_by (Some p) = λ s. Done (elements.Primitive p) (next s)
element_by None = name >>= λ n. pure (elements.Named n)

-- Prim | Name
unfoldable pub element : Parser ElementType
element s = element_by (primitive_at s.tokens) s

-- Type = (Prim | Name) Dims (JLS 4.1)
unfoldable pub type_use : Parser TypeUse
type_use = element >>= λ e. dims >>= λ n. pure (record { element = e; dims = n })

abbrev pub modifier_at : List Sign → Option Modifier
modifier_at (mark m ∷ ts) = modifier_of m
modifier_at _ = None

abbrev pub modifier_by : Option Modifier → Parser (Option Modifier)
modifier_by (Some m) = λ s. Done (Some m) (next s)
modifier_by None = pure None

unfoldable pub modifier : Parser (Option Modifier)
modifier s = modifier_by (modifier_at s.tokens) s

-- Mods = {Modifier} (JLS 8.1.1, 8.3.1, 8.4.3)
unfoldable pub modifiers : Parser (List Modifier)
modifiers = list modifier

-- Looking ahead: what stands behind the modifiers.
unfoldable pub skip_modifiers : List Sign → List Sign
skip_modifiers [] = []
skip_modifiers (t ∷ ts) = cond (is_some (modifier_at (t ∷ ts))) (skip_modifiers ts) (t ∷ ts)

-- Looking ahead: what stands behind `.` Id, as often as it comes.
unfoldable pub skip_dotted : List Sign → List Sign
skip_dotted [] = []
skip_dotted (t ∷ []) = t ∷ []
skip_dotted (t ∷ u ∷ ts) = cond (is_dotted (t ∷ u ∷ ts)) (skip_dotted ts) (t ∷ u ∷ ts)

abbrev pub is_dim : List Sign → Bool
is_dim ts = sees marks.LeftBracket ts && sees marks.RightBracket (tail ts)

-- Looking ahead: what stands behind `[` `]`, as often as it comes.
unfoldable pub skip_dims : List Sign → List Sign
skip_dims [] = []
skip_dims (t ∷ []) = t ∷ []
skip_dims (t ∷ u ∷ ts) = cond (is_dim (t ∷ u ∷ ts)) (skip_dims ts) (t ∷ u ∷ ts)

-- Looking ahead: whether a type and an identifier come next, as where a variable is declared. A name
-- is looked at once, and then read once.
unfoldable pub declares : List Sign → Bool
declares [] = false
declares (t ∷ ts) =
    cond (is_some (primitive_at (t ∷ ts))) (is_word (skip_dims ts)) (is_word (t ∷ ts) && is_word (skip_dims (skip_dotted ts)))
