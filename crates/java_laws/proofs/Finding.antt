-- Each look-up in a header has the types that it asked.
use Rattle.std.proofs.Common.{◌≡◌, ◌<◌, ◌≤◌, ℕ, zero, suc, ◌==◌, ◌||◌, nat_lt, Bool, true, false, cond, List, [], ◌∷◌, ◌++◌, Option, Some, None, flat_map, Contains, inl, inr, refl, sym, ap, ◌∙◌, subst, arith, true≢false}
use Rattle.std.specs.Option.{option_map_or}
use Rattle.std.proofs.lemmas.Bool.{cases_order, eqb-true, eq-eqb, ltb-true, lt-ltb}
use Rattle.std.proofs.lemmas.Option.{slice_get_within}
use Rattle.java_tree.specs.declared.occurrence.TypeId.{TypeId}
use Rattle.java_model.specs.Names.Lists.{Identifier, is_among}
use Rattle.java_model.specs.Names.Environments.{Env, Declared, declared, declared_at, type_id, same_id}
use Rattle.java_model.specs.Names.TypeNames.{Ask, class_of}
use Rattle.java_model.specs.Names.Supertypes.{count, declared_types, inherited_types, supers_of, member_of}
use Rattle.java_laws.specs.Reuse.{Question, inherited_asking, LooksUp, declares, is_in_hand, inherits, LookUpsHaveAsked}
use Rattle.java_laws.proofs.Lists.{Among, among, contained, among-left, among-right}
use Rattle.java_laws.proofs.Reuse.{by-declared, by-hand, by-supers}
use Rattle.java_laws.proofs.Rests.{RestsOn, inheritance-rests}

-- MORE TYPES may be said to be asked.
Within : List TypeId → List TypeId → Type 0
Within asked more = (t : TypeId) → Contains asked t → Contains more t

wider : (env : Env) (asked more : List TypeId) → Within asked more → (d : ℕ) (hand : List TypeId) (t : TypeId) (name : Identifier) (found : List TypeId)
    → LooksUp env asked d hand t name found → LooksUp env more d hand t name found
unfolding Within
wider env asked more w d hand t name found (declares _ _ _ _ u us h) = declares d hand t name u us h
wider env asked more w d hand t name found (is_in_hand _ _ _ _ h c m) = is_in_hand d hand t name h (w t c) m
wider env asked more w (suc d) hand t name found (inherits _ _ _ _ _ questions ask h c m each rests) =
    inherits d hand t name found questions ask h (w t c) m (λ s n q. wider env asked more w d (t ∷ hand) s n (ask s n) (each s n q)) rests

-- HOW MANY of the first types aren't in hand
others : ℕ → List TypeId → ℕ
others zero hand = 0
others (suc n) hand = cond (is_among same_id (type_id n) hand) (others n hand) (suc (others n hand))

with-one : (a b : Bool) (x y : ℕ) → x ≤ y → cond (a || b) x (suc x) ≤ cond b y (suc y)
with-one true true x y l = l
with-one true false x y l = omega (arith, l)
with-one false true x y l = l
with-one false false x y l = omega (arith, l)

no-more : (n : ℕ) (t : TypeId) (hand : List TypeId) → others n (t ∷ hand) ≤ others n hand
unfolding others
no-more zero t hand = omega arith
no-more (suc n) t hand = with-one (same_id (type_id n) t) (is_among same_id (type_id n) hand) (others n (t ∷ hand)) (others n hand) (no-more n t hand)

at-one : (a b : Bool) (x y : ℕ) → a ≡ true → b ≡ false → x ≤ y → cond (a || b) x (suc x) < cond b y (suc y)
at-one true true x y h k l = absurd (true≢false k)
at-one true false x y h k l = omega (arith, l)
at-one false b x y h k l = absurd (true≢false (sym h))

past-one : (a b : Bool) (x y : ℕ) → a ≡ false → x < y → cond (a || b) x (suc x) < cond b y (suc y)
past-one true b x y h l = absurd (true≢false h)
past-one false true x y h l = l
past-one false false x y h l = omega (arith, l)

one-less-by : (n : ℕ) (t : TypeId) (hand : List TypeId) (a : Bool) → same_id (type_id n) t ≡ a → t.0 < suc n → is_among same_id t hand ≡ false
    → (t.0 < n → others n (t ∷ hand) < others n hand)
    → cond (same_id (type_id n) t || is_among same_id (type_id n) hand) (others n (t ∷ hand)) (suc (others n (t ∷ hand)))
    < cond (is_among same_id (type_id n) hand) (others n hand) (suc (others n hand))
one-less-by n t hand true e l m rest =
    at-one (same_id (type_id n) t) (is_among same_id (type_id n) hand) (others n (t ∷ hand)) (others n hand) e
    (ap (λ k. is_among same_id (type_id k) hand) (eqb-true n t.0 e) ∙ m) (no-more n t hand)
one-less-by n t hand false e l m rest =
    past-one (same_id (type_id n) t) (is_among same_id (type_id n) hand) (others n (t ∷ hand)) (others n hand) e (rest (not-last n t.0 l e))
  where
    not-last : (n k : ℕ) → k < suc n → (n == k) ≡ false → k < n
    not-last n k l e = elim (cases_order n k) [
      | inl s ↦ absurd (true≢false (sym (eq-eqb n k s) ∙ e))
      | inr o ↦ elim o [
        | inl g ↦ absurd (omega (arith, l, g))
        | inr g ↦ g
      ]
    ]

one-less : (n : ℕ) (t : TypeId) (hand : List TypeId) → t.0 < n → is_among same_id t hand ≡ false → others n (t ∷ hand) < others n hand
unfolding others
one-less zero t hand l m = absurd (omega (arith, l))
one-less (suc n) t hand l m = one-less-by n t hand (same_id (type_id n) t) refl l m (λ k. one-less n t hand k m)

none-in-hand : (n : ℕ) → others n [] ≡ n
unfolding others
none-in-hand zero = refl
none-in-hand (suc n) = ap suc (none-in-hand n)

-- A LOOK-UP, within more steps than there are types that aren't in hand
record Found (env : Env) (d : ℕ) (hand : List TypeId) (t : TypeId) (name : Identifier) (found : List TypeId) : Type 0 where
  asked : List TypeId
  finds : LooksUp env asked d hand t name found

-- all of these questions, with the types that any of them asked
record AllFound (env : Env) (d : ℕ) (hand : List TypeId) (ask : Ask) (questions : List Question) : Type 0 where
  asked : List TypeId
  each : (s : TypeId) (n : Identifier) → Among questions (s, n) → LooksUp env asked d hand s n (ask s n)

into-left : (xs ys : List TypeId) → Within xs (xs ++ ys)
unfolding Within
into-left xs ys t c = contained (xs ++ ys) t (among-left xs ys t (among xs t c))

into-right : (xs ys : List TypeId) → Within ys (xs ++ ys)
unfolding Within
into-right xs ys t c = contained (xs ++ ys) t (among-right xs ys t (among ys t c))

gather : (env : Env) (d : ℕ) (hand : List TypeId) (ask : Ask) → ((s : TypeId) (n : Identifier) → Found env d hand s n (ask s n)) → (questions : List Question)
    → AllFound env d hand ask questions
gather env d hand ask one [] = record { asked = []; each = λ s n a. absurd a }
gather env d hand ask one (q ∷ qs) =
    let f = one q.0 q.1 in
    let r = gather env d hand ask one qs in
    record {
      asked = f.asked ++ r.asked;
      each = λ s n a. elim a [
        | inl e ↦ subst (λ x. LooksUp env (f.asked ++ r.asked) d hand x.0 x.1 (ask x.0 x.1)) e
            (wider env f.asked (f.asked ++ r.asked) (into-left f.asked r.asked) d hand q.0 q.1 (ask q.0 q.1) f.finds)
        | inr b ↦ wider env r.asked (f.asked ++ r.asked) (into-right f.asked r.asked) d hand s n (ask s n) (r.each s n b)
      ];
    }

-- one that isn't declared has no supertypes, whatever is answered
unasked : (env : Env) (t : TypeId) (name : Identifier) (o : Option Declared) → declared_at env t ≡ o → (t.0 < count env → ⊥) → (ask other : Ask)
    → inherited_asking env other t name ≡ inherited_asking env ask t name
unasked env t name None e past ask other =
    ap (λ x. inherited_types env other t name (flat_map class_of (option_map_or (supers_of env other) x []))) e
    ∙ sym (ap (λ x. inherited_types env ask t name (flat_map class_of (option_map_or (supers_of env ask) x []))) e)
unasked env t name (Some d) e past ask other = absurd (past (slice_get_within (declared env) t.0 d e))

found-by : (env : Env) (d : ℕ) (hand : List TypeId) (t : TypeId) (name : Identifier)
    (r : RestsOn (λ a. inherited_asking env a t name) (member_of d env (t ∷ hand)))
    → declared_types env t name ≡ [] → is_among same_id t hand ≡ false → AllFound env d (t ∷ hand) (member_of d env (t ∷ hand)) r.questions
    → Found env (suc d) hand t name (inherited_asking env (member_of d env (t ∷ hand)) t name)
found-by env d hand t name r h m all = record {
  asked = t ∷ all.asked;
  finds = inherits d hand t name _ r.questions (member_of d env (t ∷ hand)) h (contained (t ∷ all.asked) t (inl refl)) m
      (λ s n q. wider env all.asked (t ∷ all.asked) (into-right (t ∷ []) all.asked) d (t ∷ hand) s n
      (member_of d env (t ∷ hand) s n) (all.each s n (among r.questions (s, n) q)))
      r.rests;
}

found-supers : (env : Env) (d : ℕ) (hand : List TypeId) (t : TypeId) (name : Identifier) (b : Bool) → nat_lt t.0 (count env) ≡ b
    → declared_types env t name ≡ [] → is_among same_id t hand ≡ false → others (count env) hand < suc d
    → (others (count env) (t ∷ hand) < d → (s : TypeId) (n : Identifier) → Found env d (t ∷ hand) s n (member_of d env (t ∷ hand) s n))
    → Found env (suc d) hand t name (inherited_asking env (member_of d env (t ∷ hand)) t name)
found-supers env d hand t name true e h m l one =
    let r = inheritance-rests env t name (member_of d env (t ∷ hand)) in
    let k = one-less (count env) t hand (ltb-true t.0 (count env) e) m in
    found-by env d hand t name r h m (gather env d (t ∷ hand) (member_of d env (t ∷ hand)) (one (omega (arith, k, l))) r.questions)
found-supers env d hand t name false e h m l one = record {
  asked = t ∷ [];
  finds = inherits d hand t name _ [] (member_of d env (t ∷ hand)) h (contained (t ∷ []) t (inl refl)) m (λ s n q. absurd (among [] (s, n) q))
      (λ other g. unasked env t name (declared_at env t) refl (λ k. true≢false (sym (lt-ltb t.0 (count env) k) ∙ e)) (member_of d env (t ∷ hand)) other);
}

-- the types that are one more in hand
abbrev Inner : Env → ℕ → List TypeId → TypeId → Type 0
Inner env d hand t =
    others (count env) (t ∷ hand) < d → (s : TypeId) (n : Identifier) → Found env d (t ∷ hand) s n (member_of d env (t ∷ hand) s n)

by-in-hand : (env : Env) (d : ℕ) (hand : List TypeId) (t : TypeId) (name : Identifier) → others (count env) hand < suc d → Inner env d hand t
    → declared_types env t name ≡ [] → (b : Bool) → is_among same_id t hand ≡ b → Found env (suc d) hand t name (member_of (suc d) env hand t name)
by-in-hand env d hand t name l inner h true m = record {
  asked = t ∷ [];
  finds = subst (LooksUp env (t ∷ []) (suc d) hand t name) (sym (by-hand (suc d) env hand t name h m))
      (is_in_hand (suc d) hand t name h (contained (t ∷ []) t (inl refl)) m);
}
by-in-hand env d hand t name l inner h false m =
    let f = found-supers env d hand t name (nat_lt t.0 (count env)) refl h m l inner in
    record { asked = f.asked; finds = subst (LooksUp env f.asked (suc d) hand t name) (sym (by-supers d env hand t name h m)) f.finds }

by-types : (env : Env) (d : ℕ) (hand : List TypeId) (t : TypeId) (name : Identifier) → others (count env) hand < suc d → Inner env d hand t
    → (ts : List TypeId) → declared_types env t name ≡ ts → Found env (suc d) hand t name (member_of (suc d) env hand t name)
by-types env d hand t name l inner [] h = by-in-hand env d hand t name l inner h (is_among same_id t hand) refl
by-types env d hand t name l inner (u ∷ us) h = record {
  asked = [];
  finds = subst (LooksUp env [] (suc d) hand t name) (sym (by-declared (suc d) env hand t name u us h)) (declares (suc d) hand t name u us h);
}

looked-up : (env : Env) (d : ℕ) (hand : List TypeId) (t : TypeId) (name : Identifier) → others (count env) hand < d
    → Found env d hand t name (member_of d env hand t name)
looked-up env zero hand t name l = absurd (omega (arith, l))
looked-up env (suc d) hand t name l =
    by-types env d hand t name l (λ k s n. looked-up env d (t ∷ hand) s n k) (declared_types env t name) refl

pub look-ups-have-asked : LookUpsHaveAsked
look-ups-have-asked env t d at s name =
    let k = one-less (count env) t [] (slice_get_within (declared env) t.0 d at) refl in
    let n = none-in-hand (count env) in
    let f = looked-up env (count env) (t ∷ []) s name (omega (arith, k, n)) in
    (f.asked, f.finds)
