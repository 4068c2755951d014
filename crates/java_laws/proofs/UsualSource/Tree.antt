-- The tokens of the source have its tree, and the tree has the outline that stands in the environment.
use Rattle.std.proofs.Common.{ℕ, suc, [], refl, lit<}
use Rattle.java_tree.specs.declared.names.Ident.{Ident}
use Rattle.java_tree.specs.declared.outline.Level.TheVariants.{Java14}
use Rattle.java_model.specs.Grammar.Expressions.{IsExpr, literal, call, new as creates, primary_of, value, nested}
use Rattle.java_model.specs.Grammar.Marks as mark_words
use Rattle.java_model.specs.Grammar.Signs.{signs, keyword_sign, symbol_sign}
use Rattle.java_model.specs.Grammar.Statements.{IsStmt, IsBlock, IsStatementExpr, any, local, statement, expression, plain as plainly}
use Rattle.java_model.specs.Grammar.Units.{IsTypeDecl, IsMember, IsUnit, spells_nothing, spells_type}
use Rattle.java_model.specs.Texts.{IsUnitOfText, HasOutline}
use Rattle.java_model.specs.Outlines.{IsHoleOf, in_unit, IsOutline}
use Rattle.java_model.proofs.Grammar.Layers.{out-expr-Postfix, out-first-Call}
use Rattle.java_model.proofs.Grammar.Shapes.{expr_of_primary}
use Rattle.java_model.proofs.Grammar.Spells.{spells_signs}
use Rattle.java_model.proofs.Grammar.Yield.{expr_yields}
use Rattle.java_model.proofs.Grammar.YieldStmt.{stmt_yields}
use Rattle.java_laws.proofs.UsualSource.Source.{source, class, items, items_field, args, m, declaring_m, x, add, adding, size, println, printing, block, main, the_tree, hole, outlined, creation, new, plain}
use Rattle.java_laws.proofs.UsualSource.Text.{text, tokens, tokens_before, tokens_of_class, its-tokens}

-- the expressions
new-shape : (d : ℕ) (i : Ident) → IsExpr (suc d) (plain (new i))
new-shape d i = expr_of_primary d _ (primary_of (creates (creation i) refl (tt, tt)) tt)

x-shape : (d : ℕ) → IsExpr (suc d) (plain x)
unfolding x
x-shape d = expr_of_primary d _ (primary_of (literal _ refl) tt)

add-shape : IsExpr 254 (plain add)
unfolding add
add-shape = expr_of_primary 253 _ (primary_of (call _ _ refl tt (x-shape 252, tt)) tt)

size-shape : IsExpr 253 (plain size)
unfolding size
size-shape = expr_of_primary 252 _ (primary_of (call _ _ refl tt tt) tt)

println-shape : IsExpr 254 (plain println)
unfolding println
println-shape = expr_of_primary 253 _ (primary_of (call _ _ refl tt (size-shape, tt)) tt)

-- the statements
add-states : IsStatementExpr (nested 254) (plain add)
unfolding add
add-states = (add-shape, simp (out-expr-Postfix, out-first-Call))

println-states : IsStatementExpr (nested 254) (plain println)
unfolding println
println-states = (println-shape, simp (out-expr-Postfix, out-first-Call))

adding-shape : IsStmt 255 any adding
unfolding IsStmt adding
adding-shape = plainly (expression _ refl add-states)

printing-shape : IsStmt 255 any printing
unfolding IsStmt printing
printing-shape = plainly (expression _ refl println-states)

block-shape : IsBlock (nested 255) (IsStmt 255) block
unfolding block declaring_m m
block-shape = (
  local _ refl (tt, (tt, (value _ refl (new-shape 254 _), tt))),
  (statement _ refl adding-shape, (statement _ refl printing-shape, tt)),
)

-- the members and the class
items-shape : IsMember (nested 255) (IsStmt 255) class.head items_field
unfolding class items_field items
items-shape = (tt, (tt, (value _ refl (new-shape 254 _), tt)))

main-shape : IsMember (nested 255) (IsStmt 255) class.head main
unfolding class main args
main-shape = (tt, (tt, tt), tt, block-shape)

class-shape : IsTypeDecl hole class
unfolding hole class
class-shape = record {
  brace = refl;
  place = refl;
  parent = refl;
  head = (tt, tt);
  left = 255;
  counted = refl;
  members = (items-shape, (main-shape, tt));
}

pub its-tree : IsUnit tokens source
unfolding the_tree hole keyword_sign symbol_sign mark_words.keywords mark_words.symbols
its-tree = record {
  in_package = tt;
  imports = (tt, tt);
  spells = spells_signs (signs tokens_before) _ 0 _ _ _
      (spells_type hole _ class _ _ _ _ refl class-shape
      (simp (expr_yields, stmt_yields) (spells_signs (signs tokens_of_class) [] 1 _ _ _ (spells_nothing _)))
      (spells_nothing _));
}

pub its-unit : IsUnitOfText Java14 text source
its-unit = record { tokens = tokens; scanned = its-tokens; unit = its-tree }

-- the outline
class-hole : IsHoleOf source hole
unfolding source hole
class-hole = in_unit _ (0, lit< tt, refl)

its-outline : IsOutline source outlined
unfolding source outlined class hole
its-outline = record { in_package = refl; imports = refl; types = (record { hole = hole; declares = class-hole; brace = refl; is = refl }, tt) }

pub has-outline : HasOutline Java14 text outlined
has-outline = record { unit = source; is_unit = its-unit; is_outline = its-outline }
