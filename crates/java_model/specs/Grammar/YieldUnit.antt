-- What declarations yield: their tokens from left to right, and a hole for each type within.
use Rattle.std.specs.Prelude.{ℕ, Bool, true, false, List, [], ◌∷◌, ◌++◌, Option, Some, None, map}
use Rattle.java_tree.specs.declared.limits.TheConstants.{MAX_DEPTH}
use Rattle.java_tree.specs.declared.mark.Mark.{Mark}
use Rattle.java_tree.specs.declared.mark.Mark.TheVariants as marks
use Rattle.java_tree.specs.declared.names.Ident.{Ident}
use Rattle.java_tree.specs.declared.names.Modifier.{Modifier}
use Rattle.java_tree.specs.declared.stmt.Block.{Block}
use Rattle.java_tree.specs.declared.stmt.Parameter.{Parameter}
use Rattle.java_tree.specs.declared.unit.Callee.{Callee}
use Rattle.java_tree.specs.declared.unit.Callee.TheVariants as callees
use Rattle.java_tree.specs.declared.unit.Constructor.{Constructor}
use Rattle.java_tree.specs.declared.unit.Explicit.{Explicit}
use Rattle.java_tree.specs.declared.unit.Fields.{Fields}
use Rattle.java_tree.specs.declared.unit.Import.{Import}
use Rattle.java_tree.specs.declared.unit.Member.{Member}
use Rattle.java_tree.specs.declared.unit.Member.TheVariants as members
use Rattle.java_tree.specs.declared.unit.Method.{Method}
use Rattle.java_tree.specs.declared.unit.ResultType.{ResultType}
use Rattle.java_tree.specs.declared.unit.ResultType.TheVariants as results
use Rattle.java_tree.specs.declared.unit.TopLevel.{TopLevel}
use Rattle.java_tree.specs.declared.unit.TopLevel.TheVariants as tops
use Rattle.java_tree.specs.declared.unit.TypeDecl.{TypeDecl}
use Rattle.java_tree.specs.declared.unit.TypeHead.{TypeHead}
use Rattle.java_tree.specs.declared.unit.TypeHead.TheVariants as heads
use Rattle.java_tree.specs.declared.unit.TypePlace.{TypePlace}
use Rattle.java_tree.specs.declared.unit.TypePlace.TheVariants as places
use Rattle.java_tree.specs.declared.unit.Unit.{Unit as CompilationUnit}
use Rattle.java_model.specs.Grammar.Signs.{left_brace, this, super, word, modifier_mark}
use Rattle.java_model.specs.Grammar.Pieces.{Yield, Piece, token, hole, Hole, the, Around, less, each, parted, yield_name, yield_names, yield_dims, yield_type}
use Rattle.java_model.specs.Grammar.YieldExpr.{yield_arguments, yield_expr, yield_primary}
use Rattle.java_model.specs.Grammar.YieldStmt.{all_yield, yield_parameter, yield_variables, yield_block, yield_block_statement}

-- {Modifier} (JLS 8.1.1, 8.3.1, 8.4.3)
abbrev pub yield_modifiers : List Modifier → List Piece
yield_modifiers = map (λ m. the (modifier_mark m))

-- a word before names, where there are any
abbrev pub yield_clause : Mark → List (List Ident) → List Piece
yield_clause m [] = []
yield_clause m (n ∷ more) = the m ∷ yield_names (n ∷ more)

-- ['extends' Name] (JLS 8.1.3)
abbrev pub yield_superclass : Option (List Ident) → List Piece
yield_superclass None = []
yield_superclass (Some n) = the marks.Extends ∷ yield_name n

-- {Modifier} (ClassDeclaration | InterfaceDeclaration) up to its body (JLS 8.1, 9.1)
abbrev pub yield_head : TypeHead → List Piece
yield_head (heads.Class c) =
    yield_modifiers c.modifiers ++ the marks.Class ∷ token (word c.name) ∷ (yield_superclass c.extends ++ yield_clause marks.Implements c.implements)
yield_head (heads.Interface i) = yield_modifiers i.modifiers ++ the marks.Interface ∷ token (word i.name) ∷ yield_clause marks.Extends i.extends
yield_head heads.Anonymous = []

-- '(' [FormalParameter {',' FormalParameter}] ')' (JLS 8.4.1)
abbrev pub yield_parameters : List Parameter → Yield
yield_parameters ps a = the marks.LeftParen ∷ (parted (map yield_parameter ps) a ++ the marks.RightParen ∷ [])

-- 'void' | Type (JLS 8.4)
abbrev pub yield_result : ResultType → List Piece
yield_result results.Void = the marks.Void ∷ []
yield_result (results.Of t) = yield_type t

-- Block | ';' (JLS 8.4.5)
abbrev pub yield_method_body : Option Block → Yield
yield_method_body None a = the marks.Semicolon ∷ []
yield_method_body (Some b) a = yield_block b a

-- MethodDeclaration (JLS 8.4, 9.4)
abbrev pub yield_method : Method → Yield
yield_method m a =
    yield_modifiers m.modifiers ++ yield_result m.result ++ token (word m.name) ∷ (yield_parameters m.parameters a
    ++ yield_dims m.dims ++ yield_clause marks.Throws m.throws ++ yield_method_body m.body a)

-- 'this' | [Primary '.'] 'super' (JLS 8.8.5.1)
abbrev pub yield_callee : Callee → Yield
yield_callee (callees.This s) a = token (this s) ∷ []
yield_callee (callees.Super None s) a = token (super s) ∷ []
yield_callee (callees.Super (Some p) s) a = yield_primary p a ++ the marks.Dot ∷ token (super s) ∷ []

-- [ExplicitConstructorInvocation] (JLS 8.8.5.1)
abbrev pub yield_explicit : Option Explicit → Yield
yield_explicit None a = []
yield_explicit (Some x) a = yield_callee x.callee a ++ yield_arguments (map yield_expr x.arguments) a ++ the marks.Semicolon ∷ []

-- ConstructorDeclaration (JLS 8.8)
abbrev pub yield_constructor : Constructor → Yield
yield_constructor c a =
    yield_modifiers c.modifiers ++ token (word c.name) ∷ (yield_parameters c.parameters a ++ yield_clause marks.Throws c.throws
    ++ token (left_brace c.brace) ∷ (yield_explicit c.explicit a ++ all_yield (map yield_block_statement c.statements) a ++ the marks.RightBrace ∷ []))

-- FieldDeclaration (JLS 8.3, 9.3)
abbrev pub yield_fields : Fields → Yield
yield_fields f a = yield_modifiers f.modifiers ++ yield_type f.of ++ yield_variables f.variables a ++ the marks.Semicolon ∷ []

-- ['static'] (JLS 8.7)
abbrev pub yield_static : Bool → List Piece
yield_static true = the marks.Static ∷ []
yield_static false = []

-- ClassBodyDeclaration, InterfaceMemberDeclaration (JLS 8.1.5, 9.1.3)
abbrev pub yield_member : Member → Yield
yield_member members.Empty a = the marks.Semicolon ∷ []
yield_member (members.Initializer is_static b) a = yield_static is_static ++ yield_block b a
yield_member (members.Type brace) a = hole (record { brace = brace; place = places.Member; created = []; around = a }) ∷ []
yield_member (members.Method m) a = yield_method m a
yield_member (members.Constructor c) a = yield_constructor c a
yield_member (members.Field f) a = yield_fields f a

-- the local classes in scope in the body of a type: a local class itself too (JLS 14.3)
abbrev pub scope_in : TypePlace → ℕ → List ℕ → List ℕ
scope_in places.Local brace locals = brace ∷ locals
scope_in _ brace locals = locals

-- what is around the members of the type with this number, which stands in the hole
abbrev pub inside : ℕ → Hole → Around
inside number h = record { left = less h.around.left; within = Some number; locals = scope_in h.place h.brace h.around.locals }

-- {Modifier} (ClassDeclaration | InterfaceDeclaration), or the ClassBody of an anonymous class
abbrev pub yield_type_decl : ℕ → Hole → TypeDecl → List Piece
yield_type_decl number h t =
    yield_head t.head ++ token (left_brace t.brace) ∷ (each (map yield_member t.members) (inside number h) ++ the marks.RightBrace ∷ [])

-- ['package' Name ';'] (JLS 7.4)
abbrev pub yield_package : Option (List Ident) → List Piece
yield_package None = []
yield_package (Some n) = the marks.Package ∷ (yield_name n ++ the marks.Semicolon ∷ [])

-- ['.' '*']
abbrev pub yield_star : Bool → List Piece
yield_star true = the marks.Dot ∷ the marks.Star ∷ []
yield_star false = []

-- ImportDeclaration = 'import' Name ['.' '*'] ';' (JLS 7.5)
abbrev pub yield_import : Import → Yield
yield_import i a = the marks.Import ∷ (yield_name i.name ++ yield_star i.star ++ the marks.Semicolon ∷ [])

-- TypeDeclaration | ';' (JLS 7.6)
abbrev pub yield_top : TopLevel → Yield
yield_top (tops.Type brace) a = hole (record { brace = brace; place = places.TopLevel; created = []; around = a }) ∷ []
yield_top tops.Empty a = the marks.Semicolon ∷ []

-- what is around the declarations of a unit: the whole depth
abbrev pub outermost : Around
outermost = record { left = MAX_DEPTH; within = None; locals = [] }

-- CompilationUnit = ['package' Name ';'] {ImportDeclaration} {TypeDeclaration | ';'} (JLS 7.3)
abbrev pub yield_unit : CompilationUnit → List Piece
yield_unit u = yield_package u.package ++ each (map yield_import u.imports) outermost ++ each (map yield_top u.declarations) outermost
