-- No two occurrences of a unit have one start and one kind, and none ends past its tokens.
use Rattle.std.proofs.Common.{◌≡◌, ◌<◌, ◌≤◌, ◌+◌, ◌==◌, ℕ, zero, suc, true, cond, List, [], ◌∷◌, ◌++◌, Option, Some, map, refl, sym, ap, subst, ◌∙◌, arith, slice_get, sum_by, append_assoc, append-nil}
use Rattle.std.specs.List.Sorted.{IsPermutation}
use Rattle.std.proofs.lemmas.List.Sorted.{sum_by-IsPermutation}
use Rattle.std.proofs.lemmas.List.Sums.{sum_by-cons}
use Rattle.std.proofs.lemmas.Bool.{eq-eqb}
use Rattle.std.proofs.lemmas.Option.{none-some, same_Some}
use Rattle.java_tree.specs.declared.bound.Bound.{Bound}
use Rattle.java_tree.specs.declared.occurrence.Occurrence.{Occurrence}
use Rattle.java_tree.specs.declared.token.Token.{Token}
use Rattle.java_tree.specs.declared.unit.Unit.{Unit as CompilationUnit}
use Rattle.java_model.specs.Lexical.Tokens.{RiseWithin}
use Rattle.java_model.specs.Places.{Rules, times, HaveValues, no_items, an_item, LeadsTo, Name, no_paths, a_path}
use Rattle.java_model.specs.Tree.Nodes.{Node}
use Rattle.java_model.specs.Tree.Nodes as nodes
use Rattle.java_model.specs.Tree.Children.{children}
use Rattle.java_model.specs.Scopes.Contexts.{Context}
use Rattle.java_model.specs.Scopes.Scoping.{Spot, leaves, spots, inside, opens}
use Rattle.java_model.specs.Bindings.Chains.{Types}
use Rattle.java_model.specs.Occurrences.Occurrences.{Occurrences, java_rules, root_spot, spot_at, node_names}
use Rattle.java_model.specs.Grammar.Signs.{Sign, signs}
use Rattle.java_model.specs.Grammar.Units.{IsUnit, IsUnitOf}
use Rattle.java_model.proofs.Walks.{Walked, nothing-walked, one-more-walked, whole}
use Rattle.java_model.proofs.SamePlaces.{all-alike}
use Rattle.java_laws.proofs.Starts.{Weight, weights, total, Knows}
use Rattle.java_laws.proofs.StartsUnit.{tokens-in, unit-holds, all-good}
use Rattle.java_laws.specs.Order.{OccurrencesAreStrict}
use Rattle.java_laws.proofs.StartsRise.{one, starting, one-start, late, ending, within, no-end, types-known}
use Rattle.java_laws.proofs.StartsNamed.{Sort, same-sort, names, supers, creates, sort-of, share, counted, counts, counts-append, extra, node-fits}

depth : {X V O : Type 0} {rules : Rules X V O} {xs : List X} {vs : List V} → HaveValues rules xs vs → ℕ
depth no_items = 0
depth (an_item x xs parts vs h more) = suc (depth h + depth more)

abbrev nodes-of : List Spot → List Node
nodes-of = map (λ x. x.node)

nodes-of-spots : (C : Context) (s : List Bound) (ns : List Node) → nodes-of (spots C s ns) ≡ ns
nodes-of-spots C s [] = refl
nodes-of-spots C s (n ∷ ns) = ap (λ ms. n ∷ ms) (nodes-of-spots C (s ++ leaves C s n) ns)

-- a walk that found no more than the tokens of the items
record Built (C : Context) (before : List Occurrence) (ys xs : List Spot) (d : ℕ) : Type 0 where
  values : List Types
  found : List Occurrence
  walked : Walked (java_rules C) ys values found
  few : (at : Weight) (g : Sort) (f : ℕ) → d ≤ f
      → counts at g found + total (extra at) (nodes-of xs) ≤ counts at g before + total (tokens-in at C.types f) (nodes-of xs)

one-item : (C : Context) (before found below : List Occurrence) (x : Spot) (xs : List Spot) (parts : List Types) (d e : ℕ)
    → ((at : Weight) (g : Sort) (f : ℕ) → d ≤ f
    → counts at g below + total (extra at) (nodes-of (inside C x)) ≤ counts at g [] + total (tokens-in at C.types f) (nodes-of (inside C x)))
    → ((at : Weight) (g : Sort) (f : ℕ) → e ≤ f
    → counts at g found + total (extra at) (nodes-of xs)
    ≤ counts at g (before ++ (below ++ node_names C x.scope x.node parts)) + total (tokens-in at C.types f) (nodes-of xs))
    → (at : Weight) (g : Sort) (f : ℕ) → suc (d + e) ≤ f
    → counts at g found + total (extra at) (nodes-of (x ∷ xs)) ≤ counts at g before + total (tokens-in at C.types f) (nodes-of (x ∷ xs))
one-item C before found below x xs parts d e h k at g zero l = absurd (omega (arith, l))
one-item C before found below x xs parts d e h k at g (suc f) l =
    let s = x.scope ++ opens C x.scope x.node in
    let a = subst (λ ns. counts at g below + total (extra at) ns ≤ counts at g [] + total (tokens-in at C.types f) ns) (nodes-of-spots C s
    (children C.types x.node)) (h at g f (omega (arith, l))) in
    let b = k at g (suc f) (omega (arith, l)) in
    let c = node-fits at g C x.scope x.node parts in
    let p = counts-append at g before (below ++ node_names C x.scope x.node parts) in
    let q = counts-append at g below (node_names C x.scope x.node parts) in
    omega (arith, a, b, c, p, q)

built : (C : Context) (before : List Occurrence) (done ys : List Spot) (us : List Types)
    {xs : List Spot} {vs : List Types} (h : HaveValues (java_rules C) xs vs)
    → Walked (java_rules C) done us before → done ++ xs ≡ ys → Built C before ys xs (depth h)
unfolding depth
built C before done ys us no_items w e = record {
  values = us;
  found = before;
  walked = subst (λ zs. Walked (java_rules C) zs us before) (sym (append-nil done) ∙ e) w;
  few = λ at g f l. omega arith;
}
built C before done ys us (an_item x xs parts vs h more) w e =
    let under = built C [] [] (inside C x) [] h (nothing-walked (java_rules C)) refl in
    let next = built C (before ++ (under.found ++ node_names C x.scope x.node under.values)) (done ++ x ∷ []) ys _ more
    (one-more-walked (java_rules C) done us before x under.values under.found w under.walked) (append_assoc done (x ∷ []) xs ∙ e) in
    record {
      values = next.values;
      found = next.found;
      walked = next.walked;
      few = one-item C before next.found under.found x xs under.values (depth h) (depth more) under.few next.few;
    }

root-leads : {X V O : Type 0} (rules : Rules X V O) (leads : List ℕ → Option X) {paths : List (List ℕ)} {os : List O} → Name rules leads paths os
    → (n : ℕ) → times [] paths ≡ suc n → (x : X) × (parts : List V) × LeadsTo rules leads [] x parts
root-leads rules leads no_paths n e = absurd (omega (arith, e))
root-leads rules leads (a_path [] paths x parts found l more) n e = (x, parts, l)
root-leads rules leads (a_path (i ∷ path) paths x parts found l more) n e = root-leads rules leads more n e

summed : (at : Weight) (g : Sort) (os : List Occurrence) → counts at g os ≡ sum_by (counted at g) os
summed at g [] = refl
summed at g (o ∷ os) = ap (λ n. counted at g o + n) (summed at g os) ∙ sym (sum_by-cons (counted at g) o os)

same-counts : (at : Weight) (g : Sort) (os qs : List Occurrence) → IsPermutation os qs → counts at g qs ≡ counts at g os
same-counts at g os qs h = summed at g qs ∙ (sum_by-IsPermutation (counted at g) os qs h ∙ sym (summed at g os))

pub few-found : (tokens : List Sign) (u : CompilationUnit) (C : Context) (os : List Occurrence) → IsUnitOf tokens u → Knows C.types u.types
    → Occurrences C u os → (at : Weight) (g : Sort) → counts at g os ≤ weights at tokens
few-found tokens u C os h known o at g =
    let r = root-leads (java_rules C) (spot_at C u) o.name 0 (o.all []) in
    let root = root_spot u in
    let have = subst (λ x. HaveValues (java_rules C) (inside C x) r.1) (sym (same_Some root r.0 r.2.is)) r.2.have in
    let b = built C [] [] (inside C root) [] have (nothing-walked (java_rules C)) refl in
    let w = whole (java_rules C) root b.values b.found b.walked in
    let p = all-alike (java_rules C) (spot_at C u) o.places w.paths o.named (b.found ++ []) o.all w.all o.name w.name in
    let c = same-counts at g o.named os o.same in
    let d = same-counts at g o.named (b.found ++ []) p in
    let e = counts-append at g b.found [] in
    let f = b.few at g (depth have) (omega arith) in
    let i = subst (λ ns. counts at g b.found + total (extra at) ns ≤ counts at g [] + total (tokens-in at C.types (depth have)) ns) (nodes-of-spots C []
    (children C.types (nodes.unit u))) f in
    let k = ((unit-holds at C.types (tokens-in at C.types (depth have)) (all-good at C.types (depth have)) u h.in_package).keeps _ _ h.spells known).fewer in
    omega (arith, c, d, e, i, k)

abbrev same-itself : (g : Sort) → same-sort g g ≡ true
same-itself names = refl
same-itself supers = refl
same-itself creates = refl

-- an occurrence counts in its sort
pub counts-once : (o : Occurrence) (at : Weight) (g : Sort) → sort-of o.kind ≡ g → counted at g o ≡ at.weigh o.span
counts-once o at g f =
    ap (λ h. share g h (at.weigh o.span)) f
    ∙ ap (λ b. cond b (at.weigh o.span) 0) (same-itself g)

one-there : (at start : ℕ) → start ≡ at → one at start ≡ 1
one-there at start e = ap (λ b. cond b 1 0) (ap (λ n. at == n) e ∙ eq-eqb at at refl)

pub counts-one : (os : List Occurrence) (i : ℕ) (at : Weight) (g : Sort) (o : Occurrence) → slice_get os i ≡ Some o → counted at g o ≤ counts at g os
counts-one [] i at g o e = absurd (none-some o e)
counts-one (p ∷ os) zero at g o e = let f = ap (counted at g) (same_Some p o e) in omega (arith, f)
counts-one (p ∷ os) (suc i) at g o e = let h = counts-one os i at g o e in omega (arith, h)

counts-two : (os : List Occurrence) (i j : ℕ) (at : Weight) (g : Sort) (o q : Occurrence) → i < j → slice_get os i ≡ Some o → slice_get os j ≡ Some q
    → counted at g o + counted at g q ≤ counts at g os
counts-two [] i j at g o q l e f = absurd (none-some o e)
counts-two (p ∷ os) i zero at g o q l e f = absurd (omega (arith, l))
counts-two (p ∷ os) zero (suc j) at g o q l e f =
    let h = counts-one os j at g q f in
    let k = ap (counted at g) (same_Some p o e) in
    omega (arith, h, k)
counts-two (p ∷ os) (suc i) (suc j) at g o q l e f = let h = counts-two os i j at g o q (omega (arith, l)) e f in omega (arith, h)

-- no two of one start and kind, where no two tokens have one start
pub all-differ : (tokens : List Sign) (u : CompilationUnit) (C : Context) (os : List Occurrence) → IsUnitOf tokens u → Knows C.types u.types
    → ((at : ℕ) → weights (starting at) tokens ≤ 1) → Occurrences C u os → (i j : ℕ) (o q : Occurrence) → i < j → slice_get os i ≡ Some o
    → slice_get os j ≡ Some q → o.span.start ≡ q.span.start → o.kind ≡ q.kind → ⊥
all-differ tokens u C os h known rise all i j o q l e f s k =
    let at = starting o.span.start in
    let g = sort-of o.kind in
    let a = counts-two os i j at g o q l e f in
    let b = few-found tokens u C os h known all at g in
    let c : counted at g o ≡ 1 = counts-once o at g refl ∙ one-there o.span.start o.span.start refl in
    let d : counted at g q ≡ 1 = counts-once q at g (sym (ap sort-of k)) ∙ one-there o.span.start q.span.start (sym s) in
    let r = rise o.span.start in
    omega (arith, a, b, c, d, r)

pub occurrences-are-strict : OccurrencesAreStrict
occurrences-are-strict low high tokens u C os rise is same all =
    all-differ (signs tokens) u C os is (subst (λ ts. Knows ts u.types) (sym same) (types-known low high tokens u rise is)) (one-start low high tokens rise) all

-- none ends past the last token
pub ends-within : (low high : ℕ) (tokens : List Token) (u : CompilationUnit) (C : Context) (os : List Occurrence) → RiseWithin low high tokens
    → IsUnit tokens u → C.types ≡ u.types → Occurrences C u os → (i : ℕ) (o : Occurrence) → slice_get os i ≡ Some o → o.span.end ≤ high
ends-within low high tokens u C os rise is same all i o e =
    let at = ending high in
    let g = sort-of o.kind in
    let a = counts-one os i at g o e in
    let b = few-found (signs tokens) u C os is (subst (λ ts. Knows ts u.types) (sym same) (types-known low high tokens u rise is)) all at g in
    let c : counted at g o ≡ late high o.span.end = counts-once o at g refl in
    let r = no-end low high tokens rise in
    within high o.span.end (omega (arith, a, b, c, r))
