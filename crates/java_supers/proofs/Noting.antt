-- What an asker notes, and for which hands its answers hold.
use Rattle.std.proofs.Common.{◌≡◌, ℕ, zero, suc, ◌||◌, ◌&&◌, not, Bool, true, false, cond, bytes_eq, ◌⊎◌, inl, inr, List, [], ◌∷◌, ◌++◌, Some, is_some, refl, sym, ap, ◌∙◌, subst, true≢false}
use Rattle.std.specs.Prelude.{slice_get}
use Rattle.std.specs.List.{list_all}
use Rattle.std.proofs.lemmas.Bool.{and_parts, eqb-true}
use Rattle.std.proofs.lemmas.List.Folds.{list_all-append}
use Rattle.std.proofs.lemmas.Option.{none-some, same_Some}
use Rattle.std.proofs.lemmas.Slice.Eq.{bytes_eq-Decides}
use Rattle.java_tree.specs.declared.occurrence.TypeId.{TypeId}
use Rattle.java_tree.specs.declared.types.JType.{JType}
use Rattle.java_model.specs.Names.Lists.{Identifier, is_among}
use Rattle.java_model.specs.Names.Environments.{Env, Declared, declared_at, same_id, type_id}
use Rattle.java_model.specs.Names.Supertypes.{declared_types, header_ask, header_supers, supers_asking}
use Rattle.java_model.specs.Names.TypeNames.{Ask}
use Rattle.java_types.specs.Entries.{is_declared}
use Rattle.java_supers.specs.Asking.{inherited_asking}
use Rattle.java_supers.specs.Keeping.{member, among, suits, IsAnswer, Look, is_at, FitsLook, list_grows, without, Noted, has_mark, IsKept, AreKept, IsFound}
use Rattle.java_supers.specs.declared.memory.Kept.{Kept}
use Rattle.java_supers.proofs.Deep.{asked-in-header, if-declared, if-in-hand, if-inherited, if-undeclared, in-its-header}

both : (a b : Bool) → a ≡ true → b ≡ true → (a && b) ≡ true
both true true h k = refl
both true false h k = absurd (true≢false (sym k))
both false b h k = absurd (true≢false (sym h))

same : (u t : TypeId) → same_id u t ≡ true → u ≡ t
same u t h = ap type_id (eqb-true u.0 t.0 h)

-- ---- notes that grow

-- what passes for all passes for one of them
pub one-of-all : (p : TypeId → Bool) (t : TypeId) (us : List TypeId) → is_among same_id t us ≡ true → list_all p us ≡ (list_all p us && p t)
one-of-all p t [] h = absurd (true≢false (sym h))
one-of-all p t (u ∷ us) h = by (same_id t u) refl (p u) refl h (one-of-all p t us)
  where
    here : (d : Bool) → p t ≡ true → d ≡ (d && p t)
    here true g = sym g
    here false g = refl

    by : (b : Bool) → same_id t u ≡ b → (c : Bool) → p u ≡ c → (b || is_among same_id t us) ≡ true
        → (is_among same_id t us ≡ true → list_all p us ≡ (list_all p us && p t)) → (c && list_all p us) ≡ ((c && list_all p us) && p t)
    by b e false f k rest = refl
    by true e true f k rest = here (list_all p us) (ap p (same t u e) ∙ f)
    by false e true f k rest = rest k

pub grown : (xs ys zs : List TypeId) → zs ≡ xs ++ ys → list_grows xs zs
grown xs ys zs more p h =
    let parts = and_parts (list_all p xs) (list_all p ys) (sym (list_all-append p xs ys) ∙ ap (list_all p) (sym more) ∙ h) in parts.0

pub looks_back : (env : Env) (of : TypeId) (f g b c : List TypeId) (a : Ask) → list_grows f g → list_grows b c
    → FitsLook (record { env = env; of = of; free = g; blocked = c }) a → FitsLook (record { env = env; of = of; free = f; blocked = b }) a
looks_back env of f g b c a first second h =
    let parts = and_parts (list_all (λ t. not (among h.hand t)) g) (list_all (among h.hand) c) h.suited in
    record {
      hand = h.hand;
      suited = both (list_all (λ t. not (among h.hand t)) f) (list_all (among h.hand) b) (first (λ t. not (among h.hand t)) parts.0) (second (among h.hand) parts.1);
      is = h.is;
    }

-- ---- what suits a hand suits it with one type more

free-too : (of : TypeId) (marks : List Bool) (hand us : List TypeId) → has_mark marks of ≡ true → list_all (λ t. not (has_mark marks t)) us ≡ true
    → list_all (λ t. not (among hand t)) us ≡ true → list_all (λ t. not (among (of ∷ hand) t)) us ≡ true
free-too of marks hand [] m h k = refl
free-too of marks hand (u ∷ us) m h k =
    let p = and_parts (not (has_mark marks u)) (list_all (λ t. not (has_mark marks t)) us) h in
    let q = and_parts (not (among hand u)) (list_all (λ t. not (among hand t)) us) k in
    both (not (same_id u of || among hand u)) (list_all (λ t. not (among (of ∷ hand) t)) us) (by (same_id u of) refl p.0 q.0) (free-too of marks hand us m p.1 q.1)
  where
    by : (b : Bool) → same_id u of ≡ b → not (has_mark marks u) ≡ true → not (among hand u) ≡ true → not (b || among hand u) ≡ true
    by true e x y = absurd (true≢false (sym x ∙ ap not (ap (has_mark marks) (same u of e) ∙ m)))
    by false e x y = y

blocked-too : (of : TypeId) (hand us : List TypeId) → list_all (among hand) (without of us) ≡ true → list_all (among (of ∷ hand)) us ≡ true
blocked-too of hand [] h = refl
blocked-too of hand (u ∷ us) h = by (same_id u of) refl (blocked-too of hand us) h
  where
    by : (b : Bool) → same_id u of ≡ b → (list_all (among hand) (without of us) ≡ true → list_all (among (of ∷ hand)) us ≡ true) → list_all (among hand) (cond (not b) (u ∷ without of us) (without of us)) ≡ true → list_all (among (of ∷ hand)) (u ∷ us) ≡ true
    by true e rest k = both (same_id u of || among hand u) (list_all (among (of ∷ hand)) us) (ap (λ c. c || among hand u) e) (rest k)
    by false e rest k =
        let p = and_parts (among hand u) (list_all (among hand) (without of us)) k in
        both (same_id u of || among hand u) (list_all (among (of ∷ hand)) us) (ap (λ c. c || among hand u) e ∙ p.0) (rest p.1)

-- the parts of what was noted
module _ (before after : Look) (free blocked : List TypeId) (n : Noted before after free blocked) (a : Ask) (h : FitsLook after a) where
  halves : (list_all (λ t. not (among h.hand t)) after.free ≡ true) × (list_all (among h.hand) after.blocked ≡ true)
  halves = and_parts (list_all (λ t. not (among h.hand t)) after.free) (list_all (among h.hand) after.blocked) h.suited

  new-free : list_all (λ t. not (among h.hand t)) free ≡ true
  new-free =
      (and_parts (list_all (λ t. not (among h.hand t)) before.free) (list_all (λ t. not (among h.hand t)) free)
      (sym (n.free_more (λ t. not (among h.hand t))) ∙ halves.0)).1

  new-blocked : list_all (among h.hand) (without before.of blocked) ≡ true
  new-blocked =
      (and_parts (list_all (among h.hand) before.blocked) (list_all (among h.hand) (without before.of blocked))
      (sym (n.blocked_more (among h.hand)) ∙ halves.1)).1

  its-hand : a ≡ member before.env (before.of ∷ h.hand)
  its-hand = h.is ∙ ap (λ e. member e (after.of ∷ h.hand)) n.env ∙ ap (λ o. member before.env (o ∷ h.hand)) n.of

  pub kept-holds : (marks : List Bool) (kept : List Kept) (t : TypeId) (name : Identifier) (k : Kept) (found : List TypeId) → has_mark marks before.of ≡ true → AreKept before.env kept
      → IsFound kept marks t name k → free ≡ k.answer.free → blocked ≡ k.answer.blocked → found ≡ k.answer.found → found ≡ a t name
  kept-holds marks kept t name k found mark all got is-free is-blocked is-found =
      let parts = and_parts (list_all (λ u. not (has_mark marks u)) k.answer.free) (list_all (has_mark marks) k.answer.blocked) got.suited in
      let f = free-too before.of marks h.hand k.answer.free mark parts.0 (subst (λ us. list_all (λ t. not (among h.hand t)) us ≡ true) is-free new-free) in
      let b = blocked-too before.of h.hand k.answer.blocked (subst (λ us. list_all (among h.hand) (without before.of us) ≡ true) is-blocked new-blocked) in
      let s = both (list_all (λ u. not (among (before.of ∷ h.hand) u)) k.answer.free) (list_all (among (before.of ∷ h.hand)) k.answer.blocked) f b in
      is-found ∙ sym (ap (λ x. x t name) its-hand ∙ ap (λ u. member before.env (before.of ∷ h.hand) u name) (sym got.of)
      ∙ ap (member before.env (before.of ∷ h.hand) k.of) (sym got.named) ∙ (all got.place k got.at).holds (before.of ∷ h.hand) s)

  pub in-hand-holds : (t : TypeId) (name : Identifier) (found : List TypeId) → declared_types before.env t name ≡ [] → blocked ≡ t ∷ [] → found ≡ [] → found ≡ a t name
  in-hand-holds t name found none one empty =
      let b = blocked-too before.of h.hand (t ∷ []) (subst (λ us. list_all (among h.hand) (without before.of us) ≡ true) one new-blocked) in
      let m = (and_parts (among (before.of ∷ h.hand) t) true b).0 in
      empty ∙ sym (ap (λ x. x t name) its-hand ∙ if-in-hand before.env (before.of ∷ h.hand) t name none m)

pub undeclared-holds : (l : Look) (a : Ask) (t : TypeId) (name : Identifier) (found : List TypeId) → FitsLook l a → declared_types l.env t name ≡ [] → is_declared l.env t ≡ false → found ≡ [] → found ≡ a t name
undeclared-holds l a t name found h none past empty = empty ∙ sym (ap (λ x. x t name) h.is ∙ if-undeclared l.env (l.of ∷ h.hand) t name none past)

pub declared-holds : (l : Look) (a : Ask) (t : TypeId) (name : Identifier) (u : TypeId) (found : List TypeId) → FitsLook l a → u ∷ [] ≡ declared_types l.env t name → found ≡ u ∷ [] → found ≡ a t name
declared-holds l a t name u found h own is = is ∙ sym (ap (λ x. x t name) h.is ∙ if-declared l.env (l.of ∷ h.hand) t name u [] (sym own))

-- ---- answers

pub declared-answer : (env : Env) (t : TypeId) (name : Identifier) (u : TypeId) (found free blocked : List TypeId) → u ∷ [] ≡ declared_types env t name → found ≡ u ∷ [] → IsAnswer env t name found free blocked
declared-answer env t name u found free blocked own is = record { holds = λ hand s. if-declared env hand t name u [] (sym own) ∙ sym is }

last-of : (p : TypeId → Bool) (xs : List TypeId) (x : TypeId) → list_all p (xs ++ x ∷ []) ≡ true → (list_all p xs ≡ true) × (p x ≡ true)
last-of p xs x h =
    let parts = and_parts (list_all p xs) (list_all p (x ∷ [])) (sym (list_all-append p xs (x ∷ [])) ∙ h) in
    let one = and_parts (p x) true parts.1 in (parts.0, one.0)

off : (b : Bool) → not b ≡ true → b ≡ false
off true h = absurd (true≢false (sym h))
off false h = refl

pub inherited-answer : (env : Env) (l : Look) (t : TypeId) (name : Identifier) (found free blocked : List TypeId) → is_at l (record { env = env; of = t }) → declared_types env t name ≡ []
    → ((a : Ask) → FitsLook l a → found ≡ inherited_asking env a t name) → free ≡ l.free ++ t ∷ [] → blocked ≡ l.blocked → IsAnswer env t name found free blocked
inherited-answer env l t name found free blocked here none holds is-free is-blocked = record {
  holds = λ hand s.
      let parts = and_parts (list_all (λ u. not (among hand u)) free) (list_all (among hand) blocked) s in
      let f = last-of (λ u. not (among hand u)) l.free t (ap (list_all (λ u. not (among hand u))) (sym is-free) ∙ parts.0) in
      let b = ap (list_all (among hand)) (sym is-blocked) ∙ parts.1 in
      let fits : FitsLook l (member env (t ∷ hand)) = record {
        hand = hand;
        suited = both (list_all (λ u. not (among hand u)) l.free) (list_all (among hand) l.blocked) f.0 b;
        is = sym (ap (λ e. member e (l.of ∷ hand)) here.0 ∙ ap (λ o. member env (o ∷ hand)) here.1);
      } in
      if-inherited env hand t name none (off (among hand t) f.1) ∙ sym (holds (member env (t ∷ hand)) fits);
}

none-among : (us : List TypeId) → list_all (λ t. not (among [] t)) us ≡ true
none-among [] = refl
none-among (u ∷ us) = none-among us

pub header-answer : (env : Env) (l : Look) (t : TypeId) (ts : List JType) → is_at l (record { env = env; of = t }) → l.blocked ≡ []
    → ((a : Ask) → FitsLook l a → ts ≡ supers_asking env a t) → ts ≡ header_supers env t
header-answer env l t ts here none holds =
    let fits : FitsLook l (member env (t ∷ [])) = record {
      hand = [];
      suited = both (list_all (λ u. not (among [] u)) l.free) (list_all (among []) l.blocked) (none-among l.free) (ap (list_all (among [])) none);
      is = sym (ap (λ e. member e (l.of ∷ [])) here.0 ∙ ap (λ o. member env (o ∷ [])) here.1);
    } in holds (member env (t ∷ [])) fits ∙ in-its-header env t

pub name-answer : {X : Type 0} (env : Env) (l : Look) (t : TypeId) (d : Declared) (x : X) (f : Ask → X) → is_at l (record { env = env; of = t }) → l.blocked ≡ [] → declared_at env t ≡ Some d
    → ((a : Ask) → FitsLook l a → x ≡ f a) → x ≡ f (header_ask env t)
name-answer env l t d x f here none declared holds =
    let fits : FitsLook l (member env (t ∷ [])) = record {
      hand = [];
      suited = both (list_all (λ u. not (among [] u)) l.free) (list_all (among []) l.blocked) (none-among l.free) (ap (list_all (among [])) none);
      is = sym (ap (λ e. member e (l.of ∷ [])) here.0 ∙ ap (λ o. member env (o ∷ [])) here.1);
    } in holds (member env (t ∷ [])) fits ∙ ap f (asked-in-header env t (ap is_some declared))

-- ---- kept answers

pub one-found : (kept : List Kept) (marks : List Bool) (t : TypeId) (name : Identifier) (i : ℕ) (k : Kept) (b : Bool) → Some k ≡ slice_get kept i
    → b ≡ (same_id k.of t && bytes_eq k.name name && suits k.answer.free k.answer.blocked (has_mark marks)) → b ≡ true → IsFound kept marks t name k
one-found kept marks t name i k b at is holds =
    let p = and_parts (same_id k.of t && bytes_eq k.name name) (suits k.answer.free k.answer.blocked (has_mark marks)) (sym is ∙ holds) in
    let q = and_parts (same_id k.of t) (bytes_eq k.name name) p.0 in
    record { place = i; at = sym at; of = same k.of t q.0; named = (bytes_eq-Decides k.name name).0 q.1; suited = p.1 }

last-got : (xs : List Kept) (x y : Kept) (i : ℕ) → slice_get (xs ++ x ∷ []) i ≡ Some y → (slice_get xs i ≡ Some y) ⊎ (x ≡ y)
last-got [] x y zero e = inr (same_Some x y e)
last-got [] x y (suc i) e = absurd (none-some y e)
last-got (z ∷ xs) x y zero e = inl e
last-got (z ∷ xs) x y (suc i) e = last-got xs x y i e

pub one-more-kept : (env : Env) (kept after : List Kept) (k : Kept) → AreKept env kept → IsKept env k → after ≡ kept ++ k ∷ [] → AreKept env after
one-more-kept env kept after k all one is i y e = elim (last-got kept k y i (ap (λ ks. slice_get ks i) (sym is) ∙ e)) [
  | inl old ↦ all i y old
  | inr new ↦ subst (IsKept env) new one
]

pub none-kept : (env : Env) (kept : List Kept) → kept ≡ [] → AreKept env kept
none-kept env kept none i k e = absurd (none-some k (ap (λ ks. slice_get ks i) (sym none) ∙ e))
