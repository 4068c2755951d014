-- The productions of members, types and units (JLS 7, 8, 9), and which tokens a unit spells.
use Rattle.std.specs.Prelude.{◌≡◌, ℕ, suc, List, [], ◌∷◌, length, Option, None, IfSome}
use Rattle.std.specs.List.{AllByRecursion}
use Rattle.java_tree.specs.declared.names.Ident.{Ident}
use Rattle.java_tree.specs.declared.stmt.Block.{Block}
use Rattle.java_tree.specs.declared.stmt.Stmt.{Stmt}
use Rattle.java_tree.specs.declared.token.Token.{Token}
use Rattle.java_tree.specs.declared.unit.Callee.{Callee}
use Rattle.java_tree.specs.declared.unit.Callee.TheVariants as callees
use Rattle.java_tree.specs.declared.unit.ClassHead.{ClassHead}
use Rattle.java_tree.specs.declared.unit.Constructor.{Constructor}
use Rattle.java_tree.specs.declared.unit.Explicit.{Explicit}
use Rattle.java_tree.specs.declared.unit.Import.{Import}
use Rattle.java_tree.specs.declared.unit.InterfaceHead.{InterfaceHead}
use Rattle.java_tree.specs.declared.unit.Member.{Member}
use Rattle.java_tree.specs.declared.unit.Member.TheVariants as members
use Rattle.java_tree.specs.declared.unit.Method.{Method}
use Rattle.java_tree.specs.declared.unit.ResultType.{ResultType}
use Rattle.java_tree.specs.declared.unit.ResultType.TheVariants as results
use Rattle.java_tree.specs.declared.unit.TypeDecl.{TypeDecl}
use Rattle.java_tree.specs.declared.unit.TypeHead.{TypeHead}
use Rattle.java_tree.specs.declared.unit.TypeHead.TheVariants as heads
use Rattle.java_tree.specs.declared.unit.TypePlace.{TypePlace}
use Rattle.java_tree.specs.declared.unit.TypePlace.TheVariants as places
use Rattle.java_tree.specs.declared.unit.Unit.{Unit as CompilationUnit}
use Rattle.java_model.specs.Grammar.Signs.{Sign, signs}
use Rattle.java_model.specs.Grammar.Pieces.{Piece, token, hole, Hole}
use Rattle.java_model.specs.Grammar.Forms.{IsNonEmpty}
use Rattle.java_model.specs.Grammar.Expressions.{Nested, IsType, IsPrimary, nested}
use Rattle.java_model.specs.Grammar.Statements.{Ifs, IsBlock, IsBlockStatements, IsParameter, IsVariables, IsStmt}
use Rattle.java_model.specs.Grammar.YieldUnit.{yield_type_decl, yield_unit}

-- Name {',' Name} after a word
abbrev pub AreNames : List (List Ident) → Type 0
AreNames = AllByRecursion IsNonEmpty

-- ['extends' Name] ['implements' Name {',' Name}] (JLS 8.1.3, 8.1.4)
abbrev pub IsClassHead : ClassHead → Type 0
IsClassHead c = IfSome c.extends IsNonEmpty × AreNames c.implements

-- ['extends' Name {',' Name}] (JLS 9.1.2)
abbrev pub IsInterfaceHead : InterfaceHead → Type 0
IsInterfaceHead i = AreNames i.extends

-- what may be declared at a place: in a block a class alone (JLS 14.3)
abbrev pub IsHead : TypePlace → TypeHead → Type 0
IsHead places.Anonymous heads.Anonymous = Unit {0}
IsHead places.Anonymous _ = ⊥
IsHead _ heads.Anonymous = ⊥
IsHead _ (heads.Class c) = IsClassHead c
IsHead places.Local (heads.Interface i) = ⊥
IsHead _ (heads.Interface i) = IsInterfaceHead i

-- 'void' | Type (JLS 8.4)
abbrev pub IsResult : ResultType → Type 0
IsResult results.Void = Unit {0}
IsResult (results.Of t) = IsType t

-- 'this' | [Primary '.'] 'super' (JLS 8.8.5.1)
abbrev pub IsCallee : Nested → Callee → Type 0
IsCallee N (callees.This s) = Unit {0}
IsCallee N (callees.Super p s) = IfSome p (IsPrimary N)

-- ExplicitConstructorInvocation (JLS 8.8.5.1)
abbrev pub IsExplicit : Nested → Explicit → Type 0
IsExplicit N x = IsCallee N x.callee × AllByRecursion N.expr x.arguments

-- an interface has no initializer (JLS 9.1.3)
abbrev pub MayInitialize : TypeHead → Type 0
MayInitialize (heads.Interface i) = ⊥
MayInitialize _ = Unit {0}

-- a method of an interface has no body (JLS 9.4)
abbrev pub IsMethodBody : Nested → (Ifs → Stmt → Type 0) → TypeHead → Option Block → Type 0
IsMethodBody N S (heads.Interface i) body = body ≡ None
IsMethodBody N S _ body = IfSome body (IsBlock N S)

-- MethodDeclaration (JLS 8.4, 9.4)
abbrev pub IsMethod : Nested → (Ifs → Stmt → Type 0) → TypeHead → Method → Type 0
IsMethod N S head m = IsResult m.result × AllByRecursion IsParameter m.parameters × AreNames m.throws × IsMethodBody N S head m.body

-- a class alone has constructors, and they have its name (JLS 8.8)
abbrev pub HasName : TypeHead → Ident → Type 0
HasName (heads.Class c) name = name.name ≡ c.name.name
HasName _ name = ⊥

-- ConstructorDeclaration (JLS 8.8)
abbrev pub IsConstructor : Nested → (Ifs → Stmt → Type 0) → TypeHead → Constructor → Type 0
IsConstructor N S head c =
    HasName head c.name × AllByRecursion IsParameter c.parameters × AreNames c.throws
    × IfSome c.explicit (IsExplicit N) × IsBlockStatements N S c.statements

-- ClassBodyDeclaration, InterfaceMemberDeclaration (JLS 8.1.5, 9.1.3). Of a type its own declaration has the shape.
abbrev pub IsMember : Nested → (Ifs → Stmt → Type 0) → TypeHead → Member → Type 0
IsMember N S head members.Empty = Unit {0}
IsMember N S head (members.Initializer is_static b) = MayInitialize head × IsBlock N S b
IsMember N S head (members.Type brace) = Unit {0}
IsMember N S head (members.Method m) = IsMethod N S head m
IsMember N S head (members.Constructor c) = IsConstructor N S head c
IsMember N S head (members.Field f) = IsType f.of × IsVariables N f.variables

-- A type has its shape in a hole of another tree: it is declared there and has that parent, and its
-- body, which is counted, has its shape with what is left of the depth.
pub record IsTypeDecl (h : Hole) (t : TypeDecl) : Type 0 where
  pub brace : t.brace ≡ h.brace
  pub place : t.place ≡ h.place
  pub parent : t.parent ≡ h.around.within
  pub head : IsHead h.place t.head
  pub left : ℕ
  pub counted : h.around.left ≡ suc left
  pub members : AllByRecursion (IsMember (nested left) (IsStmt left) t.head) t.members

-- Where a tree stands: how many types of its unit begin before, the types that don't, and the tokens
-- that are left.
pub record Stage : Type 0 where
  pub number : ℕ
  pub types : List TypeDecl
  pub tokens : List Sign

abbrev pub stage : ℕ → List TypeDecl → List Sign → Stage
stage number types tokens = record { number = number; types = types; tokens = tokens }

-- The pieces stand from one stage up to another. A token stands there itself. In a hole stands the type
-- that begins next, with the types in it: so the types of a unit are its holes, in the order of
-- their `{`.
pub data Spells : List Piece → Stage → Stage → Type 0 where
  spells_nothing : (s : Stage) → Spells [] s s
  spells_token : (x : Sign) (ps : List Piece) (tokens : List Sign) (s t : Stage) → s.tokens ≡ x ∷ tokens
      → Spells ps (stage s.number s.types tokens) t → Spells (token x ∷ ps) s t
  spells_type : (h : Hole) (ps : List Piece) (d : TypeDecl) (types : List TypeDecl) (s m t : Stage) → s.types ≡ d ∷ types → IsTypeDecl h d
      → Spells (yield_type_decl s.number h d) (stage (suc s.number) types s.tokens) m → Spells ps m t → Spells (hole h ∷ ps) s t

-- ImportDeclaration = 'import' Name ['.' '*'] ';' (JLS 7.5)
abbrev pub IsImport : Import → Type 0
IsImport i = IsNonEmpty i.name

-- A tree is the unit of tokens (JLS 7.3): it and its types have their shapes, and spell these tokens.
pub record IsUnitOf (tokens : List Sign) (u : CompilationUnit) : Type 0 where
  pub in_package : IfSome u.package IsNonEmpty
  pub imports : AllByRecursion IsImport u.imports
  pub spells : Spells (yield_unit u) (stage 0 u.types tokens) (stage (length u.types) [] [])

abbrev pub IsUnit : List Token → CompilationUnit → Type 0
IsUnit tokens = IsUnitOf (signs tokens)

-- no tree has these tokens
abbrev pub HasNoTree : List Token → Type 0
HasNoTree tokens = (u : CompilationUnit) → IsUnit tokens u → ⊥
