-- The scopes at the header and in the body of a type.
use Rattle.std.proofs.Common.{◌≡◌, ℕ, List, drop, map, ap, ◌∙◌}
use Rattle.java_tree.specs.declared.outline.OutlineType.{OutlineType}
use Rattle.java_model.specs.Names.Environments.{Declared, around}
use Rattle.java_model.specs.Names.TypeNames.{TypeScope, body_locals, body_scope, bounds_around, header_locals, header_scope}
use Rattle.java_model.specs.Names.TypeNames as names
use Rattle.java_types.specs.Entries.{around_in}
use Rattle.java_resolve.specs.Resolving.{bound_of, scope_of}
use Rattle.java_resolve.specs.declared.type_bound.TypeBound.{TypeBound}

pub header_is : (d : Declared) (types : List OutlineType) (number : ℕ) (ns outer body locals : List ℕ) (t : OutlineType) (bs : List TypeBound) → types ≡ d.outline.types → number ≡ d.number
    → ns ≡ around_in types number → outer ≡ drop 1 ns → body ≡ body_locals d outer → t ≡ d.type → locals ≡ header_locals t body → map bound_of bs ≡ bounds_around d locals outer
    → scope_of d.outline bs ≡ header_scope d
header_is d types number ns outer body locals t bs all own round past inner at around-it made =
    let o : outer ≡ drop 1 (around d) = past ∙ ap (drop 1) (round ∙ ap (λ ts. around_in ts number) all ∙ ap (around_in d.outline.types) own) in
    let scope : List names.TypeBound → TypeScope = λ b. record { outline = d.outline; bounds = b } in
    ap scope (made ∙ ap (λ l. bounds_around d l outer) (around-it ∙ ap (λ u. header_locals u body) at ∙ ap (header_locals d.type) inner)
    ∙ ap (λ x. bounds_around d (header_locals d.type (body_locals d x)) x) o)

pub body_is : (d : Declared) (types : List OutlineType) (number : ℕ) (ns body locals : List ℕ) (bs : List TypeBound) → types ≡ d.outline.types → number ≡ d.number
    → ns ≡ around_in types number → body ≡ body_locals d ns → locals ≡ body → map bound_of bs ≡ bounds_around d locals ns
    → scope_of d.outline bs ≡ body_scope d
body_is d types number ns body locals bs all own round made seen is =
    let o : ns ≡ around d = round ∙ ap (λ ts. around_in ts number) all ∙ ap (around_in d.outline.types) own in
    let scope : List names.TypeBound → TypeScope = λ b. record { outline = d.outline; bounds = b } in
    ap scope (is ∙ ap (λ l. bounds_around d l ns) (seen ∙ made) ∙ ap (λ x. bounds_around d (body_locals d x) x) o)
