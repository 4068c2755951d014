-- In what a declaration yields each brace is closed.
use Rattle.std.proofs.Common.{◌≡◌, ℕ, Bool, true, false, List, [], ◌∷◌, ◌++◌, Option, Some, None, map, refl, subst, sym, IfSome}
use Rattle.std.specs.List.{AllByRecursion}
use Rattle.java_tree.specs.declared.mark.Mark.TheVariants as marks
use Rattle.java_tree.specs.declared.names.Ident.{Ident}
use Rattle.java_tree.specs.declared.names.Modifier.{Modifier}
use Rattle.java_tree.specs.declared.names.Modifier.TheVariants as modifiers
use Rattle.java_tree.specs.declared.stmt.Block.{Block}
use Rattle.java_tree.specs.declared.stmt.Parameter.{Parameter}
use Rattle.java_tree.specs.declared.stmt.Stmt.{Stmt}
use Rattle.java_tree.specs.declared.unit.Callee.{Callee}
use Rattle.java_tree.specs.declared.unit.Callee.TheVariants as callees
use Rattle.java_tree.specs.declared.unit.Constructor.{Constructor}
use Rattle.java_tree.specs.declared.unit.Explicit.{Explicit}
use Rattle.java_tree.specs.declared.unit.Member.{Member}
use Rattle.java_tree.specs.declared.unit.Member.TheVariants as members
use Rattle.java_tree.specs.declared.unit.Method.{Method}
use Rattle.java_tree.specs.declared.unit.ResultType.{ResultType}
use Rattle.java_tree.specs.declared.unit.ResultType.TheVariants as results
use Rattle.java_tree.specs.declared.unit.TypeDecl.{TypeDecl}
use Rattle.java_tree.specs.declared.unit.TypeHead.{TypeHead}
use Rattle.java_tree.specs.declared.unit.TypeHead.TheVariants as heads
use Rattle.java_model.specs.Grammar.Signs.{word, modifier_mark}
use Rattle.java_model.specs.Grammar.Pieces.{Piece, token, Hole, the, Around, each, parted, yield_name, names_behind, yield_names, yield_dims, yield_type}
use Rattle.java_model.specs.Grammar.YieldStmt.{yield_stmt, yield_parameter}
use Rattle.java_model.specs.Grammar.YieldUnit.{yield_modifiers, yield_clause, yield_superclass, yield_head, yield_parameters, yield_result, yield_method_body, yield_method, yield_callee, yield_explicit, yield_constructor, yield_static, yield_member, yield_type_decl, inside}
use Rattle.java_model.specs.Grammar.Expressions.{Nested, nested}
use Rattle.java_model.specs.Grammar.Statements.{Ifs, IsBlock, IsParameter, IsStmt}
use Rattle.java_model.specs.Grammar.Units.{IsCallee, IsExplicit, IsMethodBody, IsMethod, IsConstructor, IsMember, IsTypeDecl}
use Rattle.java_model.specs.Grammar.YieldExpr.{yield_primary}
use Rattle.java_model.specs.Grammar.Braces.{open_behind, IsBalanced}
use Rattle.java_model.proofs.Grammar.Balanced.{balanced_both, balanced_next, balanced_nothing, balanced_one, balanced_braced, balanced_between, balanced_name, balanced_type, balanced_dims, all_balanced, balanced_each, balanced_parted, AreClosed, arguments_closed, primary_closed, nested_closed}
use Rattle.java_model.proofs.Grammar.BalancedStmt.{balanced_parameter, variables_closed, block_statements_closed, block_closed, balanced_ended, stmts_are_closed}

modifier_neutral : (m : Modifier) (d : ℕ) (qs : List Piece) → open_behind (the (modifier_mark m) ∷ qs) d ≡ open_behind qs d
modifier_neutral modifiers.Abstract d qs = refl
modifier_neutral modifiers.Final d qs = refl
modifier_neutral modifiers.Native d qs = refl
modifier_neutral modifiers.Private d qs = refl
modifier_neutral modifiers.Protected d qs = refl
modifier_neutral modifiers.Public d qs = refl
modifier_neutral modifiers.Static d qs = refl
modifier_neutral modifiers.StrictFp d qs = refl
modifier_neutral modifiers.Synchronized d qs = refl
modifier_neutral modifiers.Transient d qs = refl
modifier_neutral modifiers.Volatile d qs = refl

balanced_modifiers : (ms : List Modifier) → IsBalanced (yield_modifiers ms)
balanced_modifiers [] = balanced_nothing
balanced_modifiers (m ∷ ms) = balanced_next (the (modifier_mark m)) (yield_modifiers ms) (modifier_neutral m) (balanced_modifiers ms)

balanced_behind : (ns : List (List Ident)) → IsBalanced (names_behind ns)
balanced_behind [] = balanced_nothing
balanced_behind (n ∷ ns) = balanced_next (the marks.Comma) _ (λ d qs. refl) (balanced_both (yield_name n) _ (balanced_name n) (balanced_behind ns))

balanced_names : (ns : List (List Ident)) → IsBalanced (yield_names ns)
balanced_names [] = balanced_nothing
balanced_names (n ∷ ns) = balanced_both (yield_name n) _ (balanced_name n) (balanced_behind ns)

balanced_implements : (ns : List (List Ident)) → IsBalanced (yield_clause marks.Implements ns)
balanced_implements [] = balanced_nothing
balanced_implements (n ∷ ns) = balanced_next (the marks.Implements) _ (λ d qs. refl) (balanced_names (n ∷ ns))

balanced_extends : (ns : List (List Ident)) → IsBalanced (yield_clause marks.Extends ns)
balanced_extends [] = balanced_nothing
balanced_extends (n ∷ ns) = balanced_next (the marks.Extends) _ (λ d qs. refl) (balanced_names (n ∷ ns))

balanced_throws : (ns : List (List Ident)) → IsBalanced (yield_clause marks.Throws ns)
balanced_throws [] = balanced_nothing
balanced_throws (n ∷ ns) = balanced_next (the marks.Throws) _ (λ d qs. refl) (balanced_names (n ∷ ns))

balanced_superclass : (n : Option (List Ident)) → IsBalanced (yield_superclass n)
balanced_superclass None = balanced_nothing
balanced_superclass (Some n) = balanced_next (the marks.Extends) _ (λ d qs. refl) (balanced_name n)

balanced_head : (head : TypeHead) → IsBalanced (yield_head head)
balanced_head (heads.Class c) =
    balanced_both (yield_modifiers c.modifiers) _ (balanced_modifiers c.modifiers)
    (balanced_next (the marks.Class) _ (λ d qs. refl) (balanced_next (token (word c.name)) _ (λ d qs. refl)
    (balanced_both (yield_superclass c.extends) _ (balanced_superclass c.extends) (balanced_implements c.implements))))
balanced_head (heads.Interface i) =
    balanced_both (yield_modifiers i.modifiers) _ (balanced_modifiers i.modifiers)
    (balanced_next (the marks.Interface) _ (λ d qs. refl) (balanced_next (token (word i.name)) _ (λ d qs. refl) (balanced_extends i.extends)))
balanced_head heads.Anonymous = balanced_nothing

balanced_parameters : (ps : List Parameter) (a : Around) → AllByRecursion IsParameter ps → IsBalanced (yield_parameters ps a)
balanced_parameters ps a h =
    balanced_between marks.LeftParen marks.RightParen (parted (map yield_parameter ps) a) (λ d qs. refl) (λ d qs. refl)
    (balanced_parted (map yield_parameter ps) a (all_balanced IsParameter yield_parameter (λ p g b. balanced_parameter p b) ps h))

balanced_result : (r : ResultType) → IsBalanced (yield_result r)
balanced_result results.Void = balanced_one (the marks.Void) (λ d qs. refl)
balanced_result (results.Of t) = balanced_type t

balanced_static : (b : Bool) → IsBalanced (yield_static b)
balanced_static true = balanced_one (the marks.Static) (λ d qs. refl)
balanced_static false = balanced_nothing

module _ (N : Nested) (S : Ifs → Stmt → Type 0) (closed : AreClosed N) (stmts_closed : (ifs : Ifs) (s : Stmt) → S ifs s → (a : Around) → IsBalanced (yield_stmt s a)) where
  callee_closed : (c : Callee) (a : Around) → IsCallee N c → IsBalanced (yield_callee c a)
  callee_closed (callees.This s) a h = balanced_one _ (λ d qs. refl)
  callee_closed (callees.Super None s) a h = balanced_one _ (λ d qs. refl)
  callee_closed (callees.Super (Some p) s) a h =
      balanced_both (yield_primary p a) _ (primary_closed N closed p a h) (balanced_next (the marks.Dot) _ (λ d qs. refl) (balanced_one _ (λ d qs. refl)))

  explicit_closed : (x : Option Explicit) (a : Around) → IfSome x (IsExplicit N) → IsBalanced (yield_explicit x a)
  explicit_closed None a h = balanced_nothing
  explicit_closed (Some x) a h =
      balanced_ended _ (balanced_both (yield_callee x.callee a) _ (callee_closed x.callee a h.0) (arguments_closed N closed x.arguments a h.1))

  body_closed : (b : Option Block) (a : Around) → IfSome b (IsBlock N S) → IsBalanced (yield_method_body b a)
  body_closed None a h = balanced_one (the marks.Semicolon) (λ d qs. refl)
  body_closed (Some b) a h = block_closed N S closed stmts_closed b a h

  method_body_closed : (head : TypeHead) (b : Option Block) (a : Around) → IsMethodBody N S head b → IsBalanced (yield_method_body b a)
  method_body_closed (heads.Class c) b a h = body_closed b a h
  method_body_closed (heads.Interface i) b a h = subst (λ b. IsBalanced (yield_method_body b a)) (sym h) (body_closed None a tt)
  method_body_closed heads.Anonymous b a h = body_closed b a h

  method_closed : (head : TypeHead) (m : Method) (a : Around) → IsMethod N S head m → IsBalanced (yield_method m a)
  method_closed head m a h =
      balanced_both (yield_modifiers m.modifiers ++ yield_result m.result) _
      (balanced_both (yield_modifiers m.modifiers) _ (balanced_modifiers m.modifiers) (balanced_result m.result))
      (balanced_next (token (word m.name)) _ (λ d qs. refl)
      (balanced_both (yield_parameters m.parameters a ++ yield_dims m.dims ++ yield_clause marks.Throws m.throws) _
      (balanced_both (yield_parameters m.parameters a ++ yield_dims m.dims) _
      (balanced_both (yield_parameters m.parameters a) _ (balanced_parameters m.parameters a h.1) (balanced_dims m.dims))
      (balanced_throws m.throws))
      (method_body_closed head m.body a h.3)))

  constructor_closed : (head : TypeHead) (c : Constructor) (a : Around) → IsConstructor N S head c → IsBalanced (yield_constructor c a)
  constructor_closed head c a h =
      balanced_both (yield_modifiers c.modifiers) _ (balanced_modifiers c.modifiers)
      (balanced_next (token (word c.name)) _ (λ d qs. refl)
      (balanced_both (yield_parameters c.parameters a ++ yield_clause marks.Throws c.throws) _
      (balanced_both (yield_parameters c.parameters a) _ (balanced_parameters c.parameters a h.1) (balanced_throws c.throws))
      (balanced_braced c.brace _
      (balanced_both (yield_explicit c.explicit a) _ (explicit_closed c.explicit a h.3)
      (block_statements_closed N S closed stmts_closed c.statements a h.4)))))

  member_closed : (head : TypeHead) (m : Member) → IsMember N S head m → (a : Around) → IsBalanced (yield_member m a)
  member_closed head members.Empty h a = balanced_one (the marks.Semicolon) (λ d qs. refl)
  member_closed head (members.Initializer is_static b) h a =
      balanced_both (yield_static is_static) _ (balanced_static is_static) (block_closed N S closed stmts_closed b a h.1)
  member_closed head (members.Type at) h a = balanced_one _ (λ d qs. refl)
  member_closed head (members.Method m) h a = method_closed head m a h
  member_closed head (members.Constructor c) h a = constructor_closed head c a h
  member_closed head (members.Field f) h a =
      balanced_ended _
      (balanced_both (yield_modifiers f.modifiers ++ yield_type f.of) _
      (balanced_both (yield_modifiers f.modifiers) _ (balanced_modifiers f.modifiers) (balanced_type f.of))
      (variables_closed N S closed stmts_closed f.variables a h.1))

  pub members_closed : (head : TypeHead) (ms : List Member) (a : Around) → AllByRecursion (IsMember N S head) ms → IsBalanced (each (map yield_member ms) a)
  members_closed head ms a h = balanced_each (map yield_member ms) a (all_balanced (IsMember N S head) yield_member (member_closed head) ms h)

-- the members of a type in its hole
pub type_members_closed : (number : ℕ) (h : Hole) (t : TypeDecl) → IsTypeDecl h t → IsBalanced (each (map yield_member t.members) (inside number h))
type_members_closed number h t is =
    members_closed (nested is.left) (IsStmt is.left) (nested_closed is.left) (stmts_are_closed is.left) t.head t.members (inside number h) is.members

pub type_closed : (number : ℕ) (h : Hole) (t : TypeDecl) → IsTypeDecl h t → IsBalanced (yield_type_decl number h t)
type_closed number h t is =
    balanced_both (yield_head t.head) _ (balanced_head t.head) (balanced_braced t.brace _ (type_members_closed number h t is))
