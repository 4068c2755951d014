-- That a reference to a constructor is bound to one of the class that it spells.
use Rattle.std.specs.Prelude.{◌≡◌, List, Some, Contains}
use Rattle.java_tree.specs.declared.occurrence.Binding.TheVariants as bindings
use Rattle.java_tree.specs.declared.occurrence.MethodId.{MethodId}
use Rattle.java_tree.specs.declared.occurrence.OccKind.TheVariants as occ
use Rattle.java_tree.specs.declared.occurrence.Occurrence.{Occurrence}
use Rattle.java_tree.specs.declared.unit.Unit.{Unit as CompilationUnit}
use Rattle.java_model.specs.Grammar.Signs.{Sign}
use Rattle.java_model.specs.Grammar.Units.{IsUnitOf}
use Rattle.java_model.specs.Names.Environments.{name_at}
use Rattle.java_model.specs.Scopes.Contexts.{Context}
use Rattle.java_model.specs.Occurrences.Occurrences.{Occurrences}
use Rattle.java_laws.specs.Declarations.{IsContext}

-- The class of a constructor that is referred to has the name of the occurrence: the created class's, the class's own
-- for `this(..)`, and the superclass's for `super(..)`, spelled or not (JLS 8.8.5, 8.8.7, 15.9).
abbrev pub ConstructorsAreOfTheirClass : Type 0
ConstructorsAreOfTheirClass = (tokens : List Sign) (u : CompilationUnit) (C : Context) → IsUnitOf tokens u → IsContext u C
    → (os : List Occurrence) → Occurrences C u os → (o : Occurrence) → Contains os o
    → (m : MethodId) → o.kind ≡ occ.CtorRef → o.binding ≡ bindings.Method m → name_at C.env m.of ≡ Some o.name
