-- The constructors of a unit have the names of their classes.
use Rattle.std.proofs.Common.{◌≡◌, suc, List, [], ◌∷◌, ◌++◌, refl, sym, ap, ◌∙◌, subst, append_assoc, append-nil}
use Rattle.std.specs.List.{AllByRecursion}
use Rattle.java_tree.specs.declared.unit.Constructor.{Constructor}
use Rattle.java_tree.specs.declared.unit.Member.TheVariants as members
use Rattle.java_tree.specs.declared.unit.TypeDecl.{TypeDecl}
use Rattle.java_tree.specs.declared.unit.Unit.{Unit as CompilationUnit}
use Rattle.java_model.specs.Grammar.Signs.{Sign}
use Rattle.java_model.specs.Grammar.Pieces.{Piece, token, hole, Hole}
use Rattle.java_model.specs.Grammar.Expressions.{nested}
use Rattle.java_model.specs.Grammar.Statements.{IsStmt}
use Rattle.java_model.specs.Grammar.YieldUnit.{yield_type_decl, yield_unit}
use Rattle.java_model.specs.Grammar.Units.{HasName, IsMember, IsTypeDecl, IsHead, Stage, stage, Spells, spells_nothing, spells_token, spells_type, IsUnitOf}
use Rattle.java_laws.proofs.Lists.{Among, each-of}

-- the types that pieces take, of each of which something holds
record Taken (P : TypeDecl → Type 0) (s t : Stage) : Type 0 where
  types : List TypeDecl
  left : s.types ≡ types ++ t.types
  all : AllByRecursion P types

all-append : (P : TypeDecl → Type 0) (ts us : List TypeDecl) → AllByRecursion P ts → AllByRecursion P us → AllByRecursion P (ts ++ us)
all-append P [] us h k = k
all-append P (t ∷ ts) us h k = (h.0, all-append P ts us h.1 k)

taken : (P : TypeDecl → Type 0) → ((h : Hole) (d : TypeDecl) → IsTypeDecl h d → P d) → (ps : List Piece) (s t : Stage) → Spells ps s t → Taken P s t
taken P each [] s t (spells_nothing _) = record { types = []; left = refl; all = tt }
taken P each (token x ∷ ps) s t (spells_token _ _ tokens _ _ e more) =
    let r = taken P each ps (stage s.number s.types tokens) t more in record { types = r.types; left = r.left; all = r.all }
taken P each (hole h ∷ ps) s t (spells_type _ _ d types _ m _ e shape inner more) =
    let a = taken P each (yield_type_decl s.number h d) (stage (suc s.number) types s.tokens) m inner in
    let b = taken P each ps m t more in
    record {
      types = d ∷ (a.types ++ b.types);
      left = e ∙ ap (λ ts. d ∷ ts) (a.left ∙ ap (λ ts. a.types ++ ts) b.left ∙ sym (append_assoc a.types b.types t.types));
      all = (each h d shape, all-append P a.types b.types a.all b.all);
    }

each-type : (P : TypeDecl → Type 0) → ((h : Hole) (d : TypeDecl) → IsTypeDecl h d → P d) → (tokens : List Sign) (u : CompilationUnit) → IsUnitOf tokens u
    → AllByRecursion P u.types
each-type P each tokens u h =
    let r = taken P each (yield_unit u) (stage 0 u.types tokens) _ h.spells in
    subst (AllByRecursion P) (sym (r.left ∙ append-nil r.types)) r.all

-- what the grammar says of a type's head and constructors (JLS 8.1, 8.8, 9.1)
pub record IsShaped (t : TypeDecl) : Type 0 where
  pub head : IsHead t.place t.head
  pub names : (c : Constructor) → Among t.members (members.Constructor c) → HasName t.head c.name

shaped : (h : Hole) (d : TypeDecl) → IsTypeDecl h d → IsShaped d
shaped h d shape = record {
  head = subst (λ p. IsHead p d.head) (sym shape.place) shape.head;
  names = λ c a. (each-of (IsMember (nested shape.left) (IsStmt shape.left) d.head) d.members (members.Constructor c) shape.members a).0;
}

pub types-shaped : (tokens : List Sign) (u : CompilationUnit) → IsUnitOf tokens u → AllByRecursion IsShaped u.types
types-shaped tokens u h = each-type IsShaped shaped tokens u h
