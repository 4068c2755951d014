-- The occurrences of a unit, from a walk through all of it.
use Rattle.std.proofs.Common.{◌≡◌, List, [], ◌++◌, Some, ap, subst, ◌∙◌}
use Rattle.std.specs.List.Sorted.{IsPermutation, IsNonDecreasingBy}
use Rattle.std.proofs.lemmas.Option.{same_Some}
use Rattle.java_tree.specs.declared.occurrence.Occurrence.{Occurrence}
use Rattle.java_tree.specs.declared.types.DocPath.{DocPath}
use Rattle.java_tree.specs.declared.unit.Unit.{Unit as CompilationUnit}
use Rattle.java_model.specs.Names.Environments.{Env}
use Rattle.java_model.specs.Tree.Nodes.{unit}
use Rattle.java_model.specs.Scopes.Contexts.{Context, context_of}
use Rattle.java_model.specs.Scopes.Scoping.{Spot}
use Rattle.java_model.specs.Bindings.Chains.{Types}
use Rattle.java_model.specs.Occurrences.Occurrences.{Occurrences, java_rules, node_names, rank, root_spot}
use Rattle.java_model.proofs.Walks.{whole}
use Rattle.java_bind.specs.Walking.{IsWalked}

at_root : (C : Context) (u : CompilationUnit) (found os : List Occurrence) (ts : Types) → IsWalked C (root_spot u) [] found ts
    → IsPermutation found os → IsNonDecreasingBy rank os → Occurrences C u os
at_root C u found os ts w same rise = let all = whole (java_rules C) (root_spot u) w.parts w.below w.walked in record {
  places = all.paths;
  all = all.all;
  named = w.below ++ node_names C [] (unit u) w.parts;
  name = all.name;
  same = subst (λ (q : List Occurrence). IsPermutation q os) w.found same;
  rise = rise;
}

root : (u : CompilationUnit) (x : Spot) → x.scope ≡ [] → x.node ≡ unit u → x ≡ root_spot u
root u x e f = ap (λ s. record { scope = s; node = x.node }) e ∙ ap (λ n. record { scope = []; node = n }) f

pub gathered : (C : Context) (u : CompilationUnit) (x : Spot) (before found os : List Occurrence) (ts : Types) → IsWalked C x before found ts
    → x.scope ≡ [] → x.node ≡ unit u → before ≡ [] → IsPermutation found os → IsNonDecreasingBy rank os → Occurrences C u os
gathered C u x before found os ts w e f g =
    at_root C u found os ts
    (subst (λ (q : List Occurrence). IsWalked C (root_spot u) q found ts) g (subst (λ (y : Spot). IsWalked C y before found ts) (root u x e f) w))

-- ---- the context of the unit

pub in_that : (env : Env) (path : DocPath) (u : CompilationUnit) (c : Context) (os : List Occurrence) → Some c ≡ context_of env path u → Occurrences c u os
    → (C : Context) → context_of env path u ≡ Some C → Occurrences C u os
in_that env path u c os e h = λ C f. subst (λ (x : Context). Occurrences x u os) (same_Some c C (e ∙ f)) h
