-- How a unit is read (JLS 7.3): the knot over the depth that is left, and what stands outside types.
use Rattle.std.specs.Prelude.{ℕ, zero, suc, Bool, true, false, cond, leb, eqb, List, [], ◌∷◌, Option, Some, None}
use Rattle.java_tree.specs.declared.mark.Mark.TheVariants as marks
use Rattle.java_tree.specs.declared.names.Ident.{Ident}
use Rattle.java_tree.specs.declared.unit.Import.{Import}
use Rattle.java_tree.specs.declared.unit.TopLevel.{TopLevel}
use Rattle.java_tree.specs.declared.unit.TopLevel.TheVariants as tops
use Rattle.java_tree.specs.declared.unit.TypePlace.TheVariants as places
use Rattle.java_tree.specs.declared.unit.Unit.{Unit as CompilationUnit}
use Rattle.java_model.specs.Grammar.Signs.{Sign}
use Rattle.java_unit_reading.specs.Reading.Steps.{state, Outcome, Done, Fail, Parser, ◌>>=◌, ◌>>◌, pure, refuse, choose, sees, expect, list, unless}
use Rattle.java_unit_reading.specs.Reading.Words.{name}
use Rattle.java_unit_reading.specs.Reading.Nested.{Exprs, Parts}
use Rattle.java_unit_reading.specs.Reading.Statements.{stmt}
use Rattle.java_unit_reading.specs.Reading.Members.{type_decl}

-- what is read where no depth is left
abbrev pub no_parts : Parts
no_parts = record { stmt = λ w. refuse; type = λ left place w. refuse }

-- What is read where one more of the depth is left. A type may be one with less of the depth left: the
-- body of an anonymous class inside an expression.
abbrev pub more_parts : Exprs → ℕ → Parts → Parts
more_parts E d P = record {
  stmt = stmt E P d;
  type = λ left place w s. cond (leb left d) (P.type left place w s) (cond (eqb left (suc d)) (type_decl E P d place w s) Fail);
}

-- the knot: what is read, by the depth that is left
unfoldable pub parts : Exprs → ℕ → Parts
parts E zero = no_parts
parts E (suc d) = more_parts E d (parts E d)

-- 'package' Name ';' (JLS 7.4)
unfoldable pub package_name : Parser (List Ident)
package_name = expect marks.Package >> (name >>= λ n. expect marks.Semicolon >> pure n)

unfoldable pub any_package : Parser (Option (List Ident))
any_package = choose (sees marks.Package) (package_name >>= λ n. pure (Some n)) (pure None)

-- ['.' '*']
unfoldable pub star : Parser Bool
star = choose (sees marks.Dot) (expect marks.Dot >> (expect marks.Star >> pure true)) (pure false)

-- Import = 'import' Name ['.' '*'] ';' (JLS 7.5)
unfoldable pub import_of : Parser Import
import_of = expect marks.Import >> (name >>= λ n. star >>= λ b. expect marks.Semicolon >> pure (record { name = n; star = b }))

unfoldable pub any_import : Parser (Option Import)
any_import = choose (sees marks.Import) (import_of >>= λ i. pure (Some i)) (pure None)

abbrev pub is_end : List Sign → Bool
is_end [] = true
is_end (t ∷ ts) = false

module _ (E : Exprs) where
  unfoldable pub top_type : Parser TopLevel
  top_type = (parts E 256).type 256 places.TopLevel None >>= λ at. pure (tops.Type at)

  -- TypeDecl | ';' (JLS 7.6)
  unfoldable pub top : Parser TopLevel
  top = choose (sees marks.Semicolon) (expect marks.Semicolon >> pure tops.Empty) top_type

  unfoldable pub any_top : Parser (Option TopLevel)
  any_top = unless is_end top

  -- Unit = ['package' Name ';'] {Import} {TypeDecl | ';'} (JLS 7.3)
  unfoldable pub unit : Parser CompilationUnit
  unit =
      any_package >>= λ p. list any_import >>= λ is. list any_top >>= λ ds. λ s.
      cond (is_end s.tokens) (Done (record { «package» = p; imports = is; declarations = ds; types = s.types }) s) Fail

  -- the unit of tokens
  abbrev pub unit_of : List Sign → Outcome CompilationUnit
  unit_of tokens = unit (state [] tokens)
