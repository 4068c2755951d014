-- Where places of a unit lead.
use Rattle.std.proofs.Common.{◌≡◌, ◌+◌, ◌-◌, ◌<◌, ◌≤◌, ℕ, zero, suc, List, [], ◌∷◌, ◌++◌, Option, Some, None, option_map, length, drop, get_or, refl, sym, ap, ◌∙◌, arith, drop-cons}
use Rattle.std.specs.Prelude.{slice_get}
use Rattle.std.proofs.lemmas.List.{drop_all}
use Rattle.std.proofs.lemmas.Option.{none-some, slice_get_within, get_or_from_slice_get}
use Rattle.java_tree.specs.declared.bound.Bound.{Bound}
use Rattle.java_model.specs.Places.{lead}
use Rattle.java_model.specs.Tree.Nodes as tree
use Rattle.java_model.specs.Scopes.Contexts.{Context}
use Rattle.java_model.specs.Tree.Children.{children}
use Rattle.java_model.specs.Scopes.Scoping.{Spot, inside, leaves, opens, spots}
use Rattle.java_model.specs.Occurrences.Occurrences.{java_rules}
use Rattle.java_nodes.specs.declared.node.Node.{Node}
use Rattle.java_nodes.specs.Seen.{seen}
use Rattle.java_scope.specs.Spots.{spot, spot_of}

none_past : (ns : List tree.Node) (i : ℕ) → slice_get ns i ≡ None → length ns ≤ i
none_past [] i e = omega arith
none_past (n ∷ ns) zero e = absurd (none-some n (sym e))
none_past (n ∷ ns) (suc i) e = let r = none_past ns i e in omega (arith, r)

nothing_from : (ns : List tree.Node) (i : ℕ) → slice_get ns i ≡ None → drop i ns ≡ []
nothing_from ns i e = drop_all i ns (none_past ns i e)

next_from : (ns : List tree.Node) (i : ℕ) (n : tree.Node) → slice_get ns i ≡ Some n → drop i ns ≡ n ∷ drop (suc i) ns
next_from ns i n e = drop-cons ns i n (slice_get_within ns i n e) ∙ ap (λ m. m ∷ drop (suc i) ns) (get_or_from_slice_get ns i n n e)

module _ (C : Context) where
  pub begins_with : (s s' : List Bound) (n : tree.Node) (at : ℕ) → s' ≡ s ++ opens C s n
      → slice_get (spots C s' (drop 0 (children C.types n))) (at - 0) ≡ slice_get (inside C (spot s n)) at
  begins_with s s' n at opened = let z : at - 0 ≡ at = omega arith in
      ap (λ t. slice_get (spots C t (children C.types n)) (at - 0)) opened ∙ ap (slice_get (inside C (spot s n))) z

  -- the child with a number, after those before it
  the_child_at : (s : List Bound) (ns : List tree.Node) (at : ℕ) (o : Option Node) (x : Option Spot) → option_map seen o ≡ slice_get ns at
      → slice_get (spots C s (drop at ns)) (at - at) ≡ x → option_map (spot_of s) o ≡ x
  the_child_at s ns at None x e so = let z : at - at ≡ 0 = omega arith in
      sym (ap (λ ms. slice_get (spots C s ms) 0) (nothing_from ns at (sym e))) ∙ sym (ap (slice_get (spots C s (drop at ns))) z) ∙ so
  the_child_at s ns at (Some c) x e so = let z : at - at ≡ 0 = omega arith in
      sym (ap (λ ms. slice_get (spots C s ms) 0) (next_from ns at (seen c) (sym e))) ∙ sym (ap (slice_get (spots C s (drop at ns))) z) ∙ so

  pub the_child : (s : List Bound) (ns : List tree.Node) (before at : ℕ) (o : Option Node) (x : Option Spot) → before ≡ at → option_map seen o ≡ slice_get ns at
      → slice_get (spots C s (drop before ns)) (at - before) ≡ x → option_map (spot_of s) o ≡ x
  the_child s ns before at o x same e so = the_child_at s ns at o x e (ap (λ k. slice_get (spots C s (drop k ns)) (at - k)) (sym same) ∙ so)

  -- a child before that with the number
  pub child_before : (s s' : List Bound) (ns : List tree.Node) (before at : ℕ) (n : tree.Node) (x : Option Spot) → before < at → slice_get ns before ≡ Some n → s' ≡ s ++ leaves C s n
      → slice_get (spots C s (drop before ns)) (at - before) ≡ x → slice_get (spots C s' (drop (before + 1) ns)) (at - (before + 1)) ≡ x
  child_before s s' ns before at n x h got left so =
      let one : at - before ≡ suc (at - (before + 1)) = omega (arith, h) in let more : before + 1 ≡ suc before = omega arith in
      ap (λ t. slice_get (spots C t (drop (before + 1) ns)) (at - (before + 1))) left
      ∙ ap (λ m. slice_get (spots C (s ++ leaves C s n) (drop m ns)) (at - (before + 1))) more
      ∙ sym (ap (λ ms. slice_get (spots C s ms) (suc (at - (before + 1)))) (next_from ns before n got))
      ∙ sym (ap (slice_get (spots C s (drop before ns))) one) ∙ so

  pub no_child : (s : List Bound) (ns : List tree.Node) (before at : ℕ) (x : Option Spot) → slice_get ns before ≡ None → slice_get (spots C s (drop before ns)) (at - before) ≡ x → None ≡ x
  no_child s ns before at x got so = sym (ap (λ ms. slice_get (spots C s ms) (at - before)) (nothing_from ns before got)) ∙ so

  pub leads_nowhere : (place : List ℕ) → lead (java_rules C) None place ≡ None
  leads_nowhere [] = refl
  leads_nowhere (i ∷ place) = refl

  pub leads_on : (place : List ℕ) (i at : ℕ) (x : Spot) (o y : Option Spot) → i < length place → at ≡ get_or place i 0 → o ≡ slice_get (inside C x) at
      → lead (java_rules C) (Some x) (drop i place) ≡ y → lead (java_rules C) o (drop (i + 1) place) ≡ y
  leads_on place i at x o y h is next so =
      let more : i + 1 ≡ suc i = omega arith in
      ap (λ p. lead (java_rules C) p (drop (i + 1) place)) (next ∙ ap (slice_get (inside C x)) is)
      ∙ ap (λ m. lead (java_rules C) (slice_get (inside C x) (get_or place i 0)) (drop m place)) more
      ∙ sym (ap (lead (java_rules C) (Some x)) (drop-cons place i 0 h)) ∙ so
