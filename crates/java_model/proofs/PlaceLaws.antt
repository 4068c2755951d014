-- Names, types and occurrences at a place are unique.
use Rattle.std.specs.List.Sorted.{IsPermutation}
use Rattle.std.proofs.lemmas.List.Sorted.{IsPermutation-sym, IsPermutation-trans}
use Rattle.std.proofs.Common.{◌≡◌, ℕ, List, ap, sym, ◌∙◌}
use Rattle.java_tree.specs.declared.occurrence.Occurrence.{Occurrence}
use Rattle.java_tree.specs.declared.types.JType.{JType}
use Rattle.java_tree.specs.declared.types.NameKind.{NameKind}
use Rattle.java_tree.specs.declared.unit.Unit.{Unit as CompilationUnit}
use Rattle.java_model.specs.Names.Lists.{Identifiers}
use Rattle.java_model.specs.Scopes.Contexts.{Context}
use Rattle.java_model.specs.Scopes.NameKinds.{classify}
use Rattle.java_model.specs.Bindings.Chains.{sole}
use Rattle.java_model.specs.Bindings.Values.{node_types}
use Rattle.java_model.specs.Occurrences.Occurrences.{Occurrences, java_rules, spot_at, node_names, type_in_node, MeansType, MeansKind, HasType}
use Rattle.java_model.proofs.SamePlaces.{all-alike}
use Rattle.java_model.proofs.Places.{item-unique, leads-unique}

pub type-unique : (C : Context) (u : CompilationUnit) (place : List ℕ) (name : Identifiers) (s t : JType)
    → MeansType C u place name s → MeansType C u place name t → s ≡ t
type-unique C u place name s t h k =
    h.is ∙ (ap (λ x. type_in_node C x.scope x.node name) (item-unique (spot_at C u) h.spot k.spot place h.leads k.leads) ∙ sym k.is)

pub kind-unique : (C : Context) (u : CompilationUnit) (place : List ℕ) (name : Identifiers) (k l : NameKind)
    → MeansKind C u place name k → MeansKind C u place name l → k ≡ l
kind-unique C u place name s t h k =
    h.is ∙ (ap (λ x. classify C x.scope name) (item-unique (spot_at C u) h.spot k.spot place h.leads k.leads) ∙ sym k.is)

pub typed-unique : (C : Context) (u : CompilationUnit) (place : List ℕ) (s t : JType) (os ps : List Occurrence)
    → HasType C u place s os → HasType C u place t ps → s ≡ t
typed-unique C u place s t os ps h k =
    h.is ∙ (leads-unique (java_rules C) (spot_at C u) place (λ x parts. sole (node_types C x.scope x.node parts)) h.spot k.spot h.parts k.parts h.leads k.leads ∙ sym k.is)

pub named-unique : (C : Context) (u : CompilationUnit) (place : List ℕ) (s t : JType) (os ps : List Occurrence)
    → HasType C u place s os → HasType C u place t ps → os ≡ ps
named-unique C u place s t os ps h k =
    h.names ∙ (leads-unique (java_rules C) (spot_at C u) place (λ x parts. node_names C x.scope x.node parts) h.spot k.spot h.parts k.parts h.leads k.leads ∙ sym k.names)

pub occurrences-alike : (C : Context) (u : CompilationUnit) (os us : List Occurrence) → Occurrences C u os → Occurrences C u us → IsPermutation os us
occurrences-alike C u os us h k =
    IsPermutation-trans os h.named us (IsPermutation-sym h.named os h.same)
    (IsPermutation-trans h.named k.named us
    (all-alike (java_rules C) (spot_at C u) h.places k.places h.named k.named h.all k.all h.name k.name) k.same)
