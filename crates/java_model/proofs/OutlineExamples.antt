-- Outlines of two small units.
use Rattle.std.proofs.Common.{◌≡◌, ℕ, true, false, List, [], ◌∷◌, Some, None, codes, refl, lit<}
use Rattle.java_tree.specs.declared.mark.Mark.TheVariants as marks
use Rattle.java_tree.specs.declared.expr.Creation.{Creation}
use Rattle.java_tree.specs.declared.expr.Expr.TheVariants as exprs
use Rattle.java_tree.specs.declared.expr.First.TheVariants as firsts
use Rattle.java_tree.specs.declared.outline.Outline.{Outline}
use Rattle.java_tree.specs.declared.outline.TypeKind.TheVariants as kinds
use Rattle.java_tree.specs.declared.stmt.Block.{Block}
use Rattle.java_tree.specs.declared.stmt.BlockStatement.TheVariants as block_statements
use Rattle.java_tree.specs.declared.stmt.Stmt.{Stmt}
use Rattle.java_tree.specs.declared.stmt.Stmt.TheVariants as stmts
use Rattle.java_tree.specs.declared.unit.Member.TheVariants as members
use Rattle.java_tree.specs.declared.unit.TopLevel.TheVariants as tops
use Rattle.java_tree.specs.declared.unit.TypeDecl.{TypeDecl}
use Rattle.java_tree.specs.declared.unit.TypeHead.TheVariants as heads
use Rattle.java_tree.specs.declared.unit.TypePlace.TheVariants as places
use Rattle.java_tree.specs.declared.unit.Unit.{Unit as CompilationUnit}
use Rattle.java_model.specs.Grammar.Pieces.{Hole, hole, token, the, Around, deeper, with_local}
use Rattle.java_model.specs.Grammar.Signs.{left_brace, word}
use Rattle.java_model.specs.Grammar.YieldStmt.{yield_block}
use Rattle.java_model.specs.Grammar.YieldUnit.{outermost}
use Rattle.java_model.specs.Outlines.{IsHoleOf, in_unit, in_type, IsOutline, IsOutlineType}
use Rattle.java_model.proofs.Grammar.Yield.{expr_yields}
use Rattle.java_model.proofs.Grammar.YieldStmt.{stmt_yields, yield_block-parts, yield_block_statement-LocalClass, yield_block_statement-LocalClass-leaves, yield_block_statement-Statement}
use Rattle.java_model.proofs.Grammar.Shapes.{primary}
use Rattle.java_model.proofs.Grammar.Units.{named, unit, outer, outer_hole, inner_hole}

-- the unit of each kind of member
outer-hole : IsHoleOf unit outer_hole
unfolding outer_hole
outer-hole = in_unit _ (0, lit< tt, refl)

inner-hole : IsHoleOf unit inner_hole
unfolding inner_hole outer_hole
inner-hole = in_type outer_hole _ 0 outer outer-hole refl refl (simp (expr_yields, stmt_yields) (0, lit< tt, refl))

abbrev outline : Outline
outline = record {
  «package» = codes "p" ∷ [];
  imports = record { name = codes "q" ∷ []; star = true } ∷ [];
  types =
      record {
        kind = kinds.Class;
        local = false;
        name = codes "A";
        span = record { start = 30; end = 31 };
        modifiers = 0;
        parent = None;
        locals = [];
        extends = (codes "B" ∷ []) ∷ [];
        implements = [];
        fields = record { name = codes "x"; of = record { name = codes "int" ∷ []; dims = 0 }; modifiers = 0; span = record { start = 70; end = 71 } } ∷ [];
        methods = record {
          name = codes "m";
          params = record { name = codes "int" ∷ []; dims = 1 } ∷ [];
          result = record { name = codes "void" ∷ []; dims = 0 };
          modifiers = 0;
          span = record { start = 110; end = 111 };
        } ∷ [];
        constructors = record {
          name = codes "A";
          params = [];
          result = record { name = codes "void" ∷ []; dims = 0 };
          modifiers = 32;
          span = record { start = 80; end = 81 };
        } ∷ [];
      }
      ∷ record {
        kind = kinds.Interface;
        local = false;
        name = codes "I";
        span = record { start = 145; end = 146 };
        modifiers = 0;
        parent = Some 0;
        locals = [];
        extends = [];
        implements = [];
        fields = [];
        methods = [];
        constructors = [];
      }
      ∷ [];
}

outline-is : IsOutline unit outline
unfolding inner_hole outer_hole
outline-is = record {
  in_package = refl;
  imports = refl;
  types = (
    record { hole = outer_hole; declares = outer-hole; brace = refl; is = refl },
    (record { hole = inner_hole; declares = inner-hole; brace = refl; is = refl }, tt),
  );
}

-- `class A { static { class L { } class M { } new y.Y() { }; } }`: the header of M has L in scope, and
-- the anonymous class has M and L.
abbrev created : Creation
created = record { class = named (codes "y") 60 ∷ named (codes "Y") 62 ∷ []; arguments = []; body = Some 66 }

abbrev creating : Stmt
creating = stmts.Expression (exprs.Postfix (primary (firsts.New created) []) [])

abbrev statements : Block
statements = record { brace = 17; statements = block_statements.LocalClass 27 ∷ block_statements.LocalClass 41 ∷ block_statements.Statement creating ∷ [] }

-- what follows a local class has it in scope
statements-yield : (at : Around) → yield_block statements at
    ≡ token (left_brace 17)
    ∷ hole (record { brace = 27; place = places.Local; created = []; around = at })
    ∷ hole (record { brace = 41; place = places.Local; created = []; around = with_local 27 at })
    ∷ the marks.New ∷ token (word (named (codes "y") 60)) ∷ the marks.Dot ∷ token (word (named (codes "Y") 62)) ∷ the marks.LeftParen ∷ the marks.RightParen
    ∷ hole (record { brace = 66; place = places.Anonymous; created = created.class; around = deeper (deeper (with_local 41 (with_local 27 at))) })
    ∷ the marks.Semicolon ∷ the marks.RightBrace ∷ []
statements-yield at =
    rw (
      yield_block-parts statements at,
      yield_block_statement-LocalClass 27 at,
      yield_block_statement-LocalClass-leaves 27 at,
      yield_block_statement-LocalClass 41 (with_local 27 at),
      yield_block_statement-LocalClass-leaves 41 (with_local 27 at),
      yield_block_statement-Statement creating (with_local 41 (with_local 27 at)),
    )
    (simp (expr_yields, stmt_yields))

abbrev local_class : List ℕ → ℕ → ℕ → TypeDecl
local_class name at brace = record {
  parent = Some 0;
  place = places.Local;
  brace = brace;
  members = [];
  head = heads.Class (record { modifiers = []; name = named name at; extends = None; implements = [] });
}

abbrev around_them : TypeDecl
around_them = record {
  parent = None;
  place = places.TopLevel;
  brace = 8;
  members = members.Initializer true statements ∷ [];
  head = heads.Class (record { modifiers = []; name = named (codes "A") 6; extends = None; implements = [] });
}

abbrev unnamed : TypeDecl
unnamed = record { parent = Some 0; place = places.Anonymous; head = heads.Anonymous; brace = 66; members = [] }

abbrev locals : CompilationUnit
locals = record {
  «package» = None;
  imports = [];
  declarations = tops.Type 8 ∷ [];
  types = around_them ∷ local_class (codes "L") 25 27 ∷ local_class (codes "M") 39 41 ∷ unnamed ∷ [];
}

whole_hole : Hole
whole_hole = record { brace = 8; place = places.TopLevel; created = []; around = outermost }

whole-hole : IsHoleOf locals whole_hole
unfolding whole_hole
whole-hole = in_unit _ (0, lit< tt, refl)

hole_of_m : Hole
unfolding whole_hole
hole_of_m = record { brace = 41; place = places.Local; created = []; around = record { left = 255; within = Some 0; locals = 27 ∷ [] } }

m-hole : IsHoleOf locals hole_of_m
unfolding hole_of_m whole_hole
m-hole = in_type whole_hole _ 0 around_them whole-hole refl refl (rw (statements-yield _) (1, lit< tt, refl))

m-outline : IsOutlineType locals (local_class (codes "M") 39 41) (record {
  kind = kinds.Class;
  local = true;
  name = codes "M";
  span = record { start = 39; end = 40 };
  modifiers = 0;
  parent = Some 0;
  locals = 1 ∷ [];
  extends = [];
  implements = [];
  fields = [];
  methods = [];
  constructors = [];
})
unfolding hole_of_m
m-outline = record { hole = hole_of_m; declares = m-hole; brace = refl; is = refl }

-- within the class, a Stmt and an Expr are counted
hole_of_y : Hole
hole_of_y = record { brace = 66; place = places.Anonymous; created = created.class; around = record { left = 253; within = Some 0; locals = 41 ∷ 27 ∷ [] } }

y-hole : IsHoleOf locals hole_of_y
unfolding hole_of_y whole_hole
y-hole = in_type whole_hole _ 0 around_them whole-hole refl refl (rw (statements-yield _) (2, lit< tt, refl))

y-outline : IsOutlineType locals unnamed (record {
  kind = kinds.Anonymous;
  local = false;
  name = [];
  span = record { start = 62; end = 63 };
  modifiers = 0;
  parent = Some 0;
  locals = 2 ∷ 1 ∷ [];
  extends = (codes "y" ∷ codes "Y" ∷ []) ∷ [];
  implements = [];
  fields = [];
  methods = [];
  constructors = [];
})
unfolding hole_of_y
y-outline = record { hole = hole_of_y; declares = y-hole; brace = refl; is = refl }
