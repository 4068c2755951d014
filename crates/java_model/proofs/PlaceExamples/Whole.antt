-- All occurrences of `package q;import p.A;class B extends A{}`, beside `package p;class A{}`.
use Rattle.std.proofs.Common.{◌≡◌, ℕ, List, [], ◌∷◌, ◌++◌, Some, None, false, codes, refl, sym, subst, lit<, lit≤, zero, suc, ◌+◌, ◌<◌, ◌≤◌, get_or, arith}
use Rattle.std.proofs.lemmas.List.Sorted.{IsNonDecreasingBy-from_all_adjacent}
use Rattle.java_tree.specs.declared.occurrence.Access.TheVariants.{NoAccess}
use Rattle.java_tree.specs.declared.occurrence.Binding.TheVariants as bindings
use Rattle.java_tree.specs.declared.occurrence.OccKind.{OccKind}
use Rattle.java_tree.specs.declared.occurrence.OccKind.TheVariants as occurs
use Rattle.java_tree.specs.declared.occurrence.Occurrence.{Occurrence}
use Rattle.java_tree.specs.declared.unit.Import.{Import}
use Rattle.java_tree.specs.declared.unit.Unit.{Unit as CompilationUnit}
use Rattle.java_model.specs.Tree.Nodes.{Node}
use Rattle.java_model.specs.Tree.Nodes as nodes
use Rattle.java_model.specs.Names.Environments.{type_id}
use Rattle.java_model.specs.Scopes.Contexts.{Context}
use Rattle.java_model.specs.Scopes.Scoping.{Spot, inside}
use Rattle.java_model.specs.Occurrences.Occurrences.{Occurrences, java_rules, root_spot, rank, node_names}
use Rattle.java_model.proofs.Walks.{Walked, nothing-walked, one-more-walked, whole}
use Rattle.java_model.proofs.PlaceExamples.Kit.{id, top_class, unit_of, outline, document, found}

abbrev in_p : CompilationUnit
in_p = unit_of (Some (id (codes "p") 8 ∷ [])) [] (top_class (id (codes "A") 16) None 17 [] ∷ [])

abbrev p_A : Import
p_A = record { name = id (codes "p") 17 ∷ id (codes "A") 19 ∷ []; star = false }

abbrev in_q : CompilationUnit
in_q = unit_of (Some (id (codes "q") 8 ∷ [])) (p_A ∷ []) (top_class (id (codes "B") 27) (Some (id (codes "A") 37 ∷ [])) 38 [] ∷ [])

abbrev C : Context
C = record { env = document (codes "p/A.java") in_p ∷ document (codes "q/B.java") in_q ∷ []; outline = outline in_q; first = 1; types = in_q.types }

abbrev spot : Node → Spot
spot n = record { scope = []; node = n }

-- a node with nothing inside
leaf : (n : Node) → inside C (spot n) ≡ [] → Walked (java_rules C) (inside C (spot n)) [] []
leaf n e = subst (λ xs. Walked (java_rules C) xs [] []) (sym e) (nothing-walked (java_rules C))

abbrev header : Node
header = nodes.supertype 0 (id (codes "A") 37 ∷ [])

abbrev in_declaration : Walked (java_rules C) (inside C (spot (nodes.declaration 38))) ([] ∷ [] ∷ []) (node_names C [] header [] ++ [])
in_declaration =
    one-more-walked (java_rules C) (spot header ∷ []) ([] ∷ []) (node_names C [] header []) (spot (nodes.body 38)) [] []
    (one-more-walked (java_rules C) [] [] [] (spot header) [] [] (nothing-walked (java_rules C)) (leaf header refl))
    (leaf (nodes.body 38) refl)

abbrev clause : Node
clause = nodes.package_clause (id (codes "q") 8 ∷ [])

abbrev before_it : List Occurrence
before_it = node_names C [] clause [] ++ node_names C [] (nodes.imported p_A) []

abbrev in_unit : Walked (java_rules C) (inside C (root_spot in_q)) ([] ∷ [] ∷ [] ∷ [])
    (before_it ++ ((node_names C [] header [] ++ []) ++ node_names C [] (nodes.declaration 38) ([] ∷ [] ∷ [])))
in_unit =
    one-more-walked (java_rules C) (spot clause ∷ spot (nodes.imported p_A) ∷ []) ([] ∷ [] ∷ []) before_it (spot (nodes.declaration 38)) ([] ∷ [] ∷ []) _
    (one-more-walked (java_rules C) (spot clause ∷ []) ([] ∷ []) (node_names C [] clause []) (spot (nodes.imported p_A)) [] []
    (one-more-walked (java_rules C) [] [] [] (spot clause) [] [] (nothing-walked (java_rules C)) (leaf clause refl))
    (leaf (nodes.imported p_A) refl))
    in_declaration

abbrev class_A : OccKind → ℕ → Occurrence
class_A kind at = found kind at (codes "A") (bindings.Class (type_id 0)) NoAccess

-- The default constructor of A isn't accessible in another package, as A itself isn't.
occurrences : List Occurrence
occurrences =
    found occurs.PackageDecl 8 (codes "q") (bindings.Package (codes "q")) NoAccess
    ∷ found occurs.PackageRef 17 (codes "p") (bindings.Package (codes "p")) NoAccess
    ∷ class_A occurs.TypeRef 19
    ∷ found occurs.TypeDecl 27 (codes "B") (bindings.Class (type_id 1)) NoAccess
    ∷ record (found occurs.CtorRef 27 (codes "A") bindings.Nothing NoAccess) { span = record { start = 27; end = 28 } }
    ∷ class_A occurs.TypeRef 37
    ∷ class_A occurs.Super 37
    ∷ []

in_order : (k : ℕ) (d : Occurrence) → k + 1 < 7 → rank (get_or occurrences k d) ≤ rank (get_or occurrences (k + 1) d)
unfolding occurrences
in_order zero d h = lit≤ tt
in_order (suc zero) d h = lit≤ tt
in_order (suc (suc zero)) d h = lit≤ tt
in_order (suc (suc (suc zero))) d h = lit≤ tt
in_order (suc (suc (suc (suc zero)))) d h = lit≤ tt
in_order (suc (suc (suc (suc (suc zero))))) d h = lit≤ tt
in_order (suc (suc (suc (suc (suc (suc k)))))) d h = absurd (omega (arith, h))

all : Occurrences C in_q occurrences
unfolding occurrences
all = let w = whole (java_rules C) (root_spot in_q) ([] ∷ [] ∷ [] ∷ []) _ in_unit in record {
  places = w.paths;
  all = w.all;
  named = _;
  name = w.name;
  same = record { moves = (3, 5) ∷ (4, 6) ∷ []; below = (lit< tt, lit< tt, (lit< tt, lit< tt, tt)); is = refl };
  rise = IsNonDecreasingBy-from_all_adjacent rank occurrences in_order;
}
