-- Where paths lead in a unit's tree.
use Rattle.std.proofs.Common.{◌≡◌, ◌+◌, ◌<◌, ℕ, zero, suc, List, [], ◌∷◌, ◌++◌, Option, Some, None, option_map, slice_get, length, get_or, drop, refl, sym, ap, ◌∙◌, drop-cons, arith}
use Rattle.std.specs.Option.{option_and_then}
use Rattle.java_tree.specs.declared.bound.Bound.{Bound}
use Rattle.java_tree.specs.declared.unit.TypeDecl.{TypeDecl}
use Rattle.java_tree.specs.declared.unit.Unit.{Unit as CompilationUnit}
use Rattle.java_model.specs.Places.{lead}
use Rattle.java_model.specs.Tree.Nodes.{Node, unit}
use Rattle.java_model.specs.Tree.Children.{children}
use Rattle.java_model.specs.Scopes.Contexts.{Context}
use Rattle.java_model.specs.Scopes.Scoping.{Spot, spots, inside, opens, leaves}
use Rattle.java_model.specs.Occurrences.Occurrences.{java_rules, root_spot, spot_at}
use Rattle.java_nodes.specs.Leading.{node_rules, node_at}

lead-nowhere : (types : List TypeDecl) (place : List ℕ) → lead (node_rules types) None place ≡ None
lead-nowhere types [] = refl
lead-nowhere types (i ∷ place) = refl

lead-more : (types : List TypeDecl) (o : Option Node) (i : ℕ) (place : List ℕ)
    → lead (node_rules types) o (i ∷ place) ≡ lead (node_rules types) (option_and_then (λ n. slice_get (children types n) i) o) place
lead-more types None i place = sym (lead-nowhere types place)
lead-more types (Some n) i place = refl

-- one more number of a place
pub lead_next : (types : List TypeDecl) (place : List ℕ) (i at : ℕ) (a : Option Node) (o p : Option Node) → i < length place → at ≡ get_or place i 0
    → a ≡ lead (node_rules types) o (drop i place) → p ≡ option_and_then (λ n. slice_get (children types n) at) o
    → a ≡ lead (node_rules types) p (drop (i + 1) place)
lead_next types place i at a o p h e f g =
    let next : i + 1 ≡ suc i = omega arith in
    f ∙ ap (lead (node_rules types) o) (drop-cons place i 0 h) ∙ lead-more types o (get_or place i 0) (drop (suc i) place)
    ∙ ap (λ n. lead (node_rules types) (option_and_then (λ x. slice_get (children types x) n) o) (drop (suc i) place)) (sym e)
    ∙ ap (λ q. lead (node_rules types) q (drop (suc i) place)) (sym g)
    ∙ ap (λ n. lead (node_rules types) p (drop n place)) (sym next)

spots_at : (C : Context) (s : List Bound) (ns : List Node) (i : ℕ) → option_map (λ x. x.node) (slice_get (spots C s ns) i) ≡ slice_get ns i
spots_at C s [] i = refl
spots_at C s (n ∷ ns) zero = refl
spots_at C s (n ∷ ns) (suc i) = spots_at C (s ++ leaves C s n) ns i

lead_alike : (C : Context) (o : Option Spot) (place : List ℕ)
    → option_map (λ x. x.node) (lead (java_rules C) o place) ≡ lead (node_rules C.types) (option_map (λ x. x.node) o) place
lead_alike C o [] = refl
lead_alike C None (i ∷ place) = refl
lead_alike C (Some x) (i ∷ place) =
    lead_alike C (slice_get (inside C x) i) place
    ∙ ap (λ o. lead (node_rules C.types) o place) (spots_at C (x.scope ++ opens C x.scope x.node) (children C.types x.node) i)

pub spot_of_node : (C : Context) (u : CompilationUnit) (place : List ℕ) → C.types ≡ u.types → option_map (λ s. s.node) (spot_at C u place) ≡ node_at u place
spot_of_node C u place e = lead_alike C (Some (root_spot u)) place ∙ ap (λ types. lead (node_rules types) (Some (unit u)) place) e
