-- Units, as the grammar reads them.
use Rattle.std.proofs.Common.{ℕ, ◌+◌, suc, true, List, [], ◌∷◌, ◌++◌, Some, None, length, codes, refl}
use Rattle.java_tree.specs.declared.mark.Mark.TheVariants as marks
use Rattle.java_tree.specs.declared.names.ElementType.TheVariants as elements
use Rattle.java_tree.specs.declared.names.Ident.{Ident}
use Rattle.java_tree.specs.declared.names.Literal.TheVariants as literals
use Rattle.java_tree.specs.declared.names.Modifier.TheVariants as modifiers
use Rattle.java_tree.specs.declared.names.Primitive.TheVariants as primitives
use Rattle.java_tree.specs.declared.names.TypeUse.{TypeUse}
use Rattle.java_tree.specs.declared.token.Span.{Span}
use Rattle.java_tree.specs.declared.expr.Expr.{Expr}
use Rattle.java_tree.specs.declared.expr.Expr.TheVariants as exprs
use Rattle.java_tree.specs.declared.expr.First.TheVariants as firsts
use Rattle.java_tree.specs.declared.expr.Initializer.TheVariants as initializers
use Rattle.java_tree.specs.declared.stmt.Block.{Block}
use Rattle.java_tree.specs.declared.unit.Callee.TheVariants as callees
use Rattle.java_tree.specs.declared.unit.Member.{Member}
use Rattle.java_tree.specs.declared.unit.Member.TheVariants as members
use Rattle.java_tree.specs.declared.unit.ResultType.TheVariants as results
use Rattle.java_tree.specs.declared.unit.TopLevel.TheVariants as tops
use Rattle.java_tree.specs.declared.unit.TypeDecl.{TypeDecl}
use Rattle.java_tree.specs.declared.unit.TypeHead.TheVariants as heads
use Rattle.java_tree.specs.declared.unit.TypePlace.TheVariants as places
use Rattle.java_tree.specs.declared.unit.Unit.{Unit as CompilationUnit}
use Rattle.java_model.specs.Grammar.Signs.{Sign, mark, left_brace, super, word, literal}
use Rattle.java_model.specs.Grammar.Pieces.{Hole}
use Rattle.java_model.specs.Grammar.Expressions.{IsExpr, literal as a_literal, primary_of, value, nested}
use Rattle.java_model.specs.Grammar.YieldUnit.{outermost, inside}
use Rattle.java_model.specs.Grammar.Units.{IsTypeDecl, spells_nothing, spells_type, IsUnitOf}
use Rattle.java_model.proofs.Grammar.Yield.{expr_yields}
use Rattle.java_model.proofs.Grammar.YieldStmt.{stmt_yields}
use Rattle.java_model.proofs.Grammar.Shapes.{expr_of_primary, primary}
use Rattle.java_model.proofs.Grammar.Spells.{spells_signs}

abbrev pub named : List ℕ → ℕ → Ident
named bytes at = record { name = bytes; span = record { start = at; end = at + length bytes } }

abbrev pub int : TypeUse
int = record { element = elements.Primitive primitives.Int; dims = 0 }

-- the number 1
abbrev pub one : Expr
one = exprs.Postfix (primary (firsts.Literal (literals.Int (codes "1"))) []) []

one-shape : (d : ℕ) → IsExpr (suc d) one
one-shape d = expr_of_primary d _ (primary_of (a_literal _ refl) tt)

-- `package p; import q.*; ; class A extends B { ; static { } int x = 1; A() { super(1); } void m(); interface I { } }`
abbrev pub block : Block
block = record { brace = 60; statements = [] }

abbrev pub a_field : Member
a_field = members.Field (record { modifiers = []; of = int; variables = record { name = named (codes "x") 70; dims = 0; initializer = Some (initializers.Value one) } ∷ [] })

abbrev pub there : Span
there = record { start = 90; end = 95 }

abbrev pub a_constructor : Member
a_constructor = members.Constructor (record {
  modifiers = modifiers.Public ∷ [];
  name = named (codes "A") 80;
  parameters = [];
  throws = [];
  brace = 85;
  explicit = Some (record { callee = callees.Super None there; arguments = one ∷ [] });
  statements = [];
})

abbrev pub a_method : Member
a_method = members.Method (record {
  modifiers = [];
  result = results.Void;
  name = named (codes "m") 110;
  parameters = record { is_final = true; of = int; name = named (codes "z") 120; dims = 1 } ∷ [];
  dims = 0;
  throws = (named (codes "E") 130 ∷ []) ∷ [];
  body = None;
})

abbrev pub outer : TypeDecl
outer = record {
  parent = None;
  place = places.TopLevel;
  brace = 40;
  head = heads.Class (record { modifiers = []; name = named (codes "A") 30; extends = Some (named (codes "B") 38 ∷ []); implements = [] });
  members = members.Empty ∷ members.Initializer true block ∷ a_field ∷ a_constructor ∷ a_method ∷ members.Type 150 ∷ [];
}

abbrev pub inner : TypeDecl
inner = record {
  parent = Some 0;
  place = places.Member;
  brace = 150;
  head = heads.Interface (record { modifiers = []; name = named (codes "I") 145; extends = [] });
  members = [];
}

abbrev pub unit : CompilationUnit
unit = record {
  «package» = Some (named (codes "p") 8 ∷ []);
  imports = record { name = named (codes "q") 18 ∷ []; star = true } ∷ [];
  declarations = tops.Empty ∷ tops.Type 40 ∷ [];
  types = outer ∷ inner ∷ [];
}

before : List Sign
before = mark marks.Package ∷ word (named (codes "p") 8) ∷ mark marks.Semicolon
    ∷ mark marks.Import ∷ word (named (codes "q") 18) ∷ mark marks.Dot ∷ mark marks.Star ∷ mark marks.Semicolon ∷ mark marks.Semicolon ∷ []

in_class : List Sign
in_class = mark marks.Class ∷ word (named (codes "A") 30) ∷ mark marks.Extends ∷ word (named (codes "B") 38) ∷ left_brace 40
    ∷ mark marks.Semicolon ∷ mark marks.Static ∷ left_brace 60 ∷ mark marks.RightBrace
    ∷ mark marks.Int ∷ word (named (codes "x") 70) ∷ mark marks.Assign ∷ literal (literals.Int (codes "1")) ∷ mark marks.Semicolon
    ∷ mark marks.Public ∷ word (named (codes "A") 80) ∷ mark marks.LeftParen ∷ mark marks.RightParen ∷ left_brace 85
    ∷ super there ∷ mark marks.LeftParen ∷ literal (literals.Int (codes "1")) ∷ mark marks.RightParen ∷ mark marks.Semicolon ∷ mark marks.RightBrace
    ∷ mark marks.Void ∷ word (named (codes "m") 110) ∷ mark marks.LeftParen ∷ mark marks.Final ∷ mark marks.Int ∷ word (named (codes "z") 120)
    ∷ mark marks.LeftBracket ∷ mark marks.RightBracket ∷ mark marks.RightParen ∷ mark marks.Throws ∷ word (named (codes "E") 130) ∷ mark marks.Semicolon ∷ []

in_interface : List Sign
in_interface = mark marks.Interface ∷ word (named (codes "I") 145) ∷ left_brace 150 ∷ mark marks.RightBrace ∷ []

unfoldable pub outer_hole : Hole
outer_hole = record { brace = 40; place = places.TopLevel; created = []; around = outermost }

unfoldable pub inner_hole : Hole
unfolding outer_hole
inner_hole = record { brace = 150; place = places.Member; created = []; around = inside 0 outer_hole }

outer-shape : IsTypeDecl outer_hole outer
unfolding outer_hole nested
outer-shape = record {
  brace = refl;
  place = refl;
  parent = refl;
  head = (tt, tt);
  left = 255;
  counted = refl;
  members = (tt, ((tt, tt), ((tt, (tt, (value one refl (one-shape 254), tt))), ((refl, tt, tt, (tt, (one-shape 254, tt)), tt), ((tt, (tt, tt), (tt, tt), tt), (tt, tt))))));
}

inner-shape : IsTypeDecl inner_hole inner
unfolding inner_hole outer_hole
inner-shape = record { brace = refl; place = refl; parent = refl; head = tt; left = 254; counted = refl; members = tt }

unit-is : IsUnitOf (before ++ (in_class ++ (in_interface ++ (mark marks.RightBrace ∷ [])))) unit
unfolding before in_class in_interface outer_hole inner_hole
unit-is = record {
  in_package = tt;
  imports = (tt, tt);
  spells = spells_signs before _ 0 _ _ _
      (spells_type outer_hole _ outer _ _ _ _ refl outer-shape
      (simp (expr_yields, stmt_yields) (spells_signs in_class _ 1 _ _ _
      (spells_type inner_hole _ inner _ _ _ _ refl inner-shape (spells_signs in_interface _ 2 _ _ _ (spells_nothing _))
      (spells_signs (mark marks.RightBrace ∷ []) _ 2 _ _ _ (spells_nothing _)))))
      (spells_nothing _));
}
