-- A walk through the parts of a node, in order.
use Rattle.std.proofs.Common.{◌≡◌, ℕ, zero, suc, ◌+◌, List, [], ◌∷◌, ◌++◌, Some, None, length, take, slice_get, refl, ap, sym, subst, ◌∙◌, append_assoc, append-nil, add-one}
use Rattle.std.proofs.Math.Seq.{take-append_seam}
use Rattle.std.proofs.lemmas.Option.{none-some, same_Some}
use Rattle.java_tree.specs.declared.bound.Bound.{Bound}
use Rattle.java_tree.specs.declared.occurrence.Occurrence.{Occurrence}
use Rattle.java_model.specs.Tree.Nodes.{Node}
use Rattle.java_model.specs.Tree.Children.{children}
use Rattle.java_model.specs.Scopes.Contexts.{Context}
use Rattle.java_model.specs.Scopes.Scoping.{Spot, leaves, opens, spots}
use Rattle.java_model.specs.Bindings.Chains.{Types}
use Rattle.java_model.specs.Bindings.Values.{node_types}
use Rattle.java_model.specs.Occurrences.Occurrences.{java_rules, node_names}
use Rattle.java_model.proofs.Walks.{Walked, nothing-walked, one-more-walked}
use Rattle.java_bind.specs.Walking.{IsWalked}

-- ---- one item more

take-get : {A : Type 0} (xs : List A) (i : ℕ) (x : A) → slice_get xs i ≡ Some x → take (suc i) xs ≡ take i xs ++ x ∷ []
take-get [] i x e = absurd (none-some x e)
take-get (y ∷ ys) zero x e = ap (λ z. z ∷ []) (same_Some y x e)
take-get (y ∷ ys) (suc i) x e = ap (λ zs. y ∷ zs) (take-get ys i x e)

take-all : {A : Type 0} (xs : List A) (i : ℕ) → slice_get xs i ≡ None → take i xs ≡ xs
take-all [] zero e = refl
take-all [] (suc i) e = refl
take-all (y ∷ ys) zero e = absurd (none-some y (sym e))
take-all (y ∷ ys) (suc i) e = ap (λ zs. y ∷ zs) (take-all ys i e)

-- what is in scope after nodes
abbrev pub scope_after : Context → List Bound → List Node → List Bound
scope_after C s [] = s
scope_after C s (n ∷ ns) = scope_after C (s ++ leaves C s n) ns

scope-more : (C : Context) (s : List Bound) (ns : List Node) (n : Node) → scope_after C s (ns ++ n ∷ []) ≡ scope_after C s ns ++ leaves C (scope_after C s ns) n
scope-more C s [] n = refl
scope-more C s (m ∷ ns) n = scope-more C (s ++ leaves C s m) ns n

abbrev spot : List Bound → Node → Spot
spot s n = record { scope = s; node = n }

spots-more : (C : Context) (s : List Bound) (ns : List Node) (n : Node) → spots C s (ns ++ n ∷ []) ≡ spots C s ns ++ spot (scope_after C s ns) n ∷ []
spots-more C s [] n = refl
spots-more C s (m ∷ ns) n = ap (λ xs. spot s m ∷ xs) (spots-more C (s ++ leaves C s m) ns n)

-- ---- the parts so far

abbrev parts_of : Context → Spot → List Node
parts_of C x = children C.types x.node

abbrev opened_by : Context → Spot → List Bound
opened_by C x = x.scope ++ opens C x.scope x.node

pub record IsWalking (C : Context) (x : Spot) (at : ℕ) (values : List Types) (scope : List Bound) (before found : List Occurrence) : Type 0 where
  pub below : List Occurrence
  pub walked : Walked (java_rules C) (spots C (opened_by C x) (take at (parts_of C x))) values below
  pub is_found : found ≡ before ++ below
  pub is_scope : scope ≡ scope_after C (opened_by C x) (take at (parts_of C x))
  pub more : List Bound
  pub around : scope ≡ x.scope ++ more

pub begins : (C : Context) (x : Spot) (values : List Types) (scope : List Bound) (found : List Occurrence) → values ≡ [] → scope ≡ opened_by C x
    → IsWalking C x 0 values scope found found
begins C x values scope found none e = record {
  below = [];
  walked = subst (λ vs. Walked (java_rules C) [] vs []) (sym none) (nothing-walked (java_rules C));
  is_found = sym (append-nil found);
  is_scope = e;
  more = opens C x.scope x.node;
  around = e;
}

module _ (C : Context) (x : Spot) (at : ℕ) (values : List Types) (scope : List Bound) (before found : List Occurrence) (w : IsWalking C x at values scope before found) where
  so_far : List Node
  so_far = take at (parts_of C x)

  one_node : (n : Node) → slice_get (parts_of C x) at ≡ Some n → take (at + 1) (parts_of C x) ≡ so_far ++ n ∷ []
  unfolding so_far
  one_node n e = ap (λ i. take i (parts_of C x)) (add-one at) ∙ take-get (parts_of C x) at n e

  one_spot : (n : Node) → slice_get (parts_of C x) at ≡ Some n
      → spots C (opened_by C x) so_far ++ spot scope n ∷ [] ≡ spots C (opened_by C x) (take (at + 1) (parts_of C x))
  unfolding so_far
  one_spot n e =
      ap (λ s. spots C (opened_by C x) so_far ++ spot s n ∷ []) w.is_scope
      ∙ sym (ap (spots C (opened_by C x)) (one_node n e) ∙ spots-more C (opened_by C x) so_far n)

  one_scope : (n : Node) → slice_get (parts_of C x) at ≡ Some n → scope ++ leaves C scope n ≡ scope_after C (opened_by C x) (take (at + 1) (parts_of C x))
  unfolding so_far
  one_scope n e =
      ap (λ s. s ++ leaves C s n) w.is_scope
      ∙ sym (ap (scope_after C (opened_by C x)) (one_node n e) ∙ scope-more C (opened_by C x) so_far n)

  pub goes_on : (n : Node) (ts : Types) (values' : List Types) (inner after : List Bound) (found' : List Occurrence) → slice_get (parts_of C x) at ≡ Some n
      → IsWalked C (spot scope n) found found' ts → inner ≡ scope → values' ≡ values ++ ts ∷ [] → after ≡ inner ++ leaves C inner n
      → IsWalking C x (at + 1) values' after before found'
  unfolding so_far
  goes_on n ts values' inner after found' e child same added left = record {
    below = w.below ++ (child.below ++ node_names C scope n child.parts);
    walked =
        subst (λ xs. Walked (java_rules C) xs values' (w.below ++ (child.below ++ node_names C scope n child.parts))) (one_spot n e)
        (subst (λ vs. Walked (java_rules C) (spots C (opened_by C x) so_far ++ spot scope n ∷ []) vs (w.below ++ (child.below ++ node_names C scope n child.parts)))
        (sym (added ∙ ap (λ t. values ++ t ∷ []) child.types))
        (one-more-walked (java_rules C) (spots C (opened_by C x) so_far) values w.below (spot scope n) child.parts child.below w.walked child.walked));
    is_found =
        child.found ∙ ap (λ os. os ++ (child.below ++ node_names C scope n child.parts)) w.is_found
        ∙ append_assoc before w.below (child.below ++ node_names C scope n child.parts);
    is_scope = is_after ∙ one_scope n e;
    more = w.more ++ leaves C scope n;
    around = is_after ∙ ap (λ s. s ++ leaves C scope n) w.around ∙ append_assoc x.scope w.more (leaves C scope n);
  }
    where
      is_after : after ≡ scope ++ leaves C scope n
      is_after = left ∙ ap (λ s. s ++ leaves C s n) same

  pub closes : (n : ℕ) (cut : List Bound) → n ≡ length x.scope → cut ≡ take n scope → cut ≡ x.scope
  closes n cut e is = is ∙ ap (λ m. take m scope) e ∙ ap (take (length x.scope)) w.around ∙ take-append_seam x.scope w.more

  pub ends : (s : List Bound) (ts : Types) (found' : List Occurrence) → slice_get (parts_of C x) at ≡ None → s ≡ x.scope
      → ts ≡ node_types C s x.node values → found' ≡ found ++ node_names C s x.node values → IsWalked C x before found' ts
  unfolding so_far
  ends s ts found' none same value named = record {
    parts = values;
    below = w.below;
    walked = subst (λ ns. Walked (java_rules C) (spots C (opened_by C x) ns) values w.below) (take-all (parts_of C x) at none) w.walked;
    types = value ∙ ap (λ r. node_types C r x.node values) same;
    found =
        named ∙ ap (λ r. found ++ node_names C r x.node values) same ∙ ap (λ os. os ++ node_names C x.scope x.node values) w.is_found
        ∙ append_assoc before w.below (node_names C x.scope x.node values);
  }
