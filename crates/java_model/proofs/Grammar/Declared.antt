-- Statements and declarations that the side rules refuse.
use Rattle.std.proofs.Common.{◌≡◌, ℕ, zero, suc, Bool, [], Some, None, ap, sym, ◌∙◌, get_or, arith}
use Rattle.java_tree.specs.declared.expr.Expr.{Expr}
use Rattle.java_tree.specs.declared.stmt.Block.{Block}
use Rattle.java_tree.specs.declared.stmt.Stmt.{Stmt, out-Stmt}
use Rattle.java_tree.specs.declared.stmt.Stmt.TheVariants as stmts
use Rattle.java_tree.specs.declared.token.Span.{Span}
use Rattle.java_tree.specs.declared.unit.Callee.TheVariants as callees
use Rattle.java_tree.specs.declared.unit.InterfaceHead.{InterfaceHead}
use Rattle.java_tree.specs.declared.unit.Member.{Member}
use Rattle.java_tree.specs.declared.unit.Member.TheVariants as members
use Rattle.java_tree.specs.declared.unit.ResultType.TheVariants as results
use Rattle.java_tree.specs.declared.unit.TypeDecl.{TypeDecl}
use Rattle.java_tree.specs.declared.unit.TypeHead.{TypeHead}
use Rattle.java_tree.specs.declared.unit.TypeHead.TheVariants as heads
use Rattle.java_tree.specs.declared.unit.TypePlace.TheVariants as places
use Rattle.java_model.specs.Grammar.Forms.{is_statement}
use Rattle.java_model.specs.Grammar.Pieces.{Hole}
use Rattle.java_model.specs.Grammar.Expressions.{Nested}
use Rattle.java_model.specs.Grammar.Statements.{Ifs, IsPlain, block, empty, labeled, expression, while, do_while, for, switch, break, continue, return, throw, synchronized, try_catch, try_finally, assert, plain, short_if, if_else, IsStmt}
use Rattle.java_model.specs.Grammar.Units.{IsMember, IsHead, IsTypeDecl}
use Rattle.java_model.proofs.Grammar.LayersStmt.{stmt_layers}
use Rattle.java_model.proofs.Grammar.Shapes.{simple}
use Rattle.java_model.proofs.Grammar.Refusals.{cut_name, cut_name-primary, name_is_no_statement, true_is_not_false}
use Rattle.java_model.proofs.Grammar.Examples.{a, b}

-- `a;` is no statement (JLS 14.8).
same_expression : (x y : Expr) → stmts.Expression x ≡ stmts.Expression y → x ≡ y
same_expression x y e = cc (simp stmt_layers at (ap out-Stmt e))

name_statement-plain : (N : Nested) (S : Ifs → Stmt → Type 0) (ifs : Ifs) → IsPlain N S ifs (stmts.Expression (simple a)) → ⊥
name_statement-plain N S ifs (block b e h) = cc
name_statement-plain N S ifs (empty e) = cc
name_statement-plain N S ifs (labeled i y e h) = cc
name_statement-plain N S ifs (expression x e h) = true_is_not_false (sym h.1 ∙ ap is_statement (sym (same_expression _ _ e)) ∙ name_is_no_statement)
name_statement-plain N S ifs (while x y e h g) = cc
name_statement-plain N S ifs (do_while y x e h g) = cc
name_statement-plain N S ifs (for init test update y e h g k l) = cc
name_statement-plain N S ifs (switch x brace groups e h g) = cc
name_statement-plain N S ifs (break label e) = cc
name_statement-plain N S ifs (continue label e) = cc
name_statement-plain N S ifs (return x e h) = cc
name_statement-plain N S ifs (throw x e h) = cc
name_statement-plain N S ifs (synchronized x b e h g) = cc
name_statement-plain N S ifs (try_catch b k cs finally e h g l m) = cc
name_statement-plain N S ifs (try_finally b finally e h g) = cc
name_statement-plain N S ifs (assert x detail e h g) = cc

name_statement-refused : (d : ℕ) (ifs : Ifs) → IsStmt d ifs (stmts.Expression (simple a)) → ⊥
unfolding IsStmt
name_statement-refused zero ifs h = h
name_statement-refused (suc d) ifs (plain h) = name_statement-plain _ _ ifs h
name_statement-refused (suc d) ifs (short_if arms last e k hs h) = cc
name_statement-refused (suc d) ifs (if_else arm arms z e h hs p) = cc

-- A `try` has a `catch` or a `finally` (JLS 14.19).
bare_try-plain : (N : Nested) (S : Ifs → Stmt → Type 0) (ifs : Ifs) (k : Block) → IsPlain N S ifs (stmts.Try k [] None) → ⊥
bare_try-plain N S ifs k (block b e h) = cc
bare_try-plain N S ifs k (empty e) = cc
bare_try-plain N S ifs k (labeled i y e h) = cc
bare_try-plain N S ifs k (expression x e h) = cc
bare_try-plain N S ifs k (while x y e h g) = cc
bare_try-plain N S ifs k (do_while y x e h g) = cc
bare_try-plain N S ifs k (for init test update y e h g m l) = cc
bare_try-plain N S ifs k (switch x brace groups e h g) = cc
bare_try-plain N S ifs k (break label e) = cc
bare_try-plain N S ifs k (continue label e) = cc
bare_try-plain N S ifs k (return x e h) = cc
bare_try-plain N S ifs k (throw x e h) = cc
bare_try-plain N S ifs k (synchronized x b e h g) = cc
bare_try-plain N S ifs k (try_catch b c cs finally e h g l m) = cc (simp stmt_layers at (ap out-Stmt e))
bare_try-plain N S ifs k (try_finally b finally e h g) = cc (simp stmt_layers at (ap out-Stmt e))
bare_try-plain N S ifs k (assert x detail e h g) = cc

bare_try-refused : (d : ℕ) (ifs : Ifs) (k : Block) → IsStmt d ifs (stmts.Try k [] None) → ⊥
unfolding IsStmt
bare_try-refused zero ifs k h = h
bare_try-refused (suc d) ifs k (plain h) = bare_try-plain _ _ ifs k h
bare_try-refused (suc d) ifs k (short_if arms last e m hs h) = cc
bare_try-refused (suc d) ifs k (if_else arm arms z e h hs p) = cc

-- A constructor has the name of its class (JLS 8.8): `class a { b() { } }`.
abbrev class_a : TypeHead
class_a = heads.Class (record { modifiers = []; name = a; extends = None; implements = [] })

abbrev constructor_b : Member
constructor_b = members.Constructor (record { modifiers = []; name = b; parameters = []; throws = []; brace = 10; explicit = None; statements = [] })

other_name-refused : (N : Nested) (S : Ifs → Stmt → Type 0) → IsMember N S class_a constructor_b → ⊥
other_name-refused N S h = let first = ap (λ xs. get_or xs 0 0) h.0 in absurd (omega (arith, first))

-- An interface and an anonymous class have no constructor (JLS 9.1.3, 15.9.5).
in_interface-refused : (N : Nested) (S : Ifs → Stmt → Type 0) (i : InterfaceHead) → IsMember N S (heads.Interface i) constructor_b → ⊥
in_interface-refused N S i h = h.0

in_anonymous-refused : (N : Nested) (S : Ifs → Stmt → Type 0) → IsMember N S heads.Anonymous constructor_b → ⊥
in_anonymous-refused N S h = h.0

-- An interface has no initializer (JLS 9.1.3).
initializer-refused : (N : Nested) (S : Ifs → Stmt → Type 0) (i : InterfaceHead) (is_static : Bool) (k : Block)
    → IsMember N S (heads.Interface i) (members.Initializer is_static k) → ⊥
initializer-refused N S i is_static k h = h.0

-- A method of an interface has no body (JLS 9.4).
some_is_not_none : (k : Block) → Some k ≡ None → ⊥
some_is_not_none k e = cc

body-refused : (N : Nested) (S : Ifs → Stmt → Type 0) (i : InterfaceHead) (k : Block) → IsMember N S (heads.Interface i)
    (members.Method (record { modifiers = []; result = results.Void; name = b; parameters = []; dims = 0; throws = []; body = Some k })) → ⊥
body-refused N S i k h = some_is_not_none k h.3

-- Before the dot of an explicit `super(..)` a primary expression stands (JLS 8.8.5.1).
abbrev explicit_cut : Span → Member
explicit_cut s = members.Constructor (record {
  modifiers = [];
  name = a;
  parameters = [];
  throws = [];
  brace = 10;
  explicit = Some (record { callee = callees.Super (Some cut_name) s; arguments = [] });
  statements = [];
})

explicit_cut-refused : (N : Nested) (S : Ifs → Stmt → Type 0) (s : Span) → IsMember N S class_a (explicit_cut s) → ⊥
explicit_cut-refused N S s h = cut_name-primary N h.3.0

-- In a block no interface is declared (JLS 14.3).
local_interface-refused : (i : InterfaceHead) → IsHead places.Local (heads.Interface i) → ⊥
local_interface-refused i h = h

-- Where no depth is left no type stands.
no_depth-refused : (h : Hole) (t : TypeDecl) → h.around.left ≡ 0 → IsTypeDecl h t → ⊥
no_depth-refused h t e d = let c = d.counted in omega arith
