-- An answer of the look-up with types in hand holds again.
use Rattle.std.proofs.Common.{◌≡◌, ℕ, zero, suc, true, false, ◌||◌, List, [], ◌∷◌, sym, ap, ◌∙◌, arith}
use Rattle.java_tree.specs.declared.occurrence.TypeId.{TypeId}
use Rattle.java_model.specs.Names.Lists.{Identifier, or_else, unless, is_among}
use Rattle.java_model.specs.Names.Environments.{Env, same_id}
use Rattle.java_model.specs.Names.Supertypes.{declared_types, member_of}
use Rattle.java_laws.specs.Reuse.{inherited_asking, declares, is_in_hand, inherits, SameInHand, AnswersHoldAgain, AnswersHoldDisjointly}

one-more : (asked hand other : List TypeId) (t : TypeId) → SameInHand asked hand other → SameInHand asked (t ∷ hand) (t ∷ other)
one-more asked hand other t same u c = ap (λ b. same_id u t || b) (same u c)

pub by-declared : (e : ℕ) (env : Env) (hand : List TypeId) (t : TypeId) (name : Identifier) (u : TypeId) (us : List TypeId) → declared_types env t name ≡ u ∷ us
    → member_of e env hand t name ≡ u ∷ us
by-declared zero env hand t name u us h = h
by-declared (suc e) env hand t name u us h =
    ap (λ ts. or_else ts (λ _. unless (is_among same_id t hand) (λ _. inherited_asking env (member_of e env (t ∷ hand)) t name))) h

pub by-hand : (e : ℕ) (env : Env) (hand : List TypeId) (t : TypeId) (name : Identifier) → declared_types env t name ≡ [] → is_among same_id t hand ≡ true
    → member_of e env hand t name ≡ []
by-hand zero env hand t name h m = h
by-hand (suc e) env hand t name h m =
    ap (λ ts. or_else ts (λ _. unless (is_among same_id t hand) (λ _. inherited_asking env (member_of e env (t ∷ hand)) t name))) h
    ∙ ap (λ b. unless b (λ _. inherited_asking env (member_of e env (t ∷ hand)) t name)) m

pub by-supers : (e : ℕ) (env : Env) (hand : List TypeId) (t : TypeId) (name : Identifier) → declared_types env t name ≡ [] → is_among same_id t hand ≡ false
    → member_of (suc e) env hand t name ≡ inherited_asking env (member_of e env (t ∷ hand)) t name
by-supers e env hand t name h m =
    ap (λ ts. or_else ts (λ _. unless (is_among same_id t hand) (λ _. inherited_asking env (member_of e env (t ∷ hand)) t name))) h
    ∙ ap (λ b. unless b (λ _. inherited_asking env (member_of e env (t ∷ hand)) t name)) m

pub answers-hold-again : AnswersHoldAgain
answers-hold-again env asked d hand t name found (declares _ _ _ _ u us h) e l other same = by-declared e env other t name u us h
answers-hold-again env asked d hand t name found (is_in_hand _ _ _ _ h c m) e l other same = by-hand e env other t name h (same t c ∙ m)
answers-hold-again env asked (suc d) hand t name found (inherits _ _ _ _ _ questions ask h c m each rests) zero l other same = absurd (omega (arith, l))
answers-hold-again env asked (suc d) hand t name found (inherits _ _ _ _ _ questions ask h c m each rests) (suc e) l other same =
    by-supers e env other t name h (same t c ∙ m)
    ∙ rests (member_of e env (t ∷ other)) (λ s n q. sym
    (answers-hold-again env asked d (t ∷ hand) s n (ask s n) (each s n q) e (omega (arith, l)) (t ∷ other) (one-more asked hand other t same)))

pub answers-hold-disjointly : AnswersHoldDisjointly
answers-hold-disjointly env asked d hand t name found f apart e l other free =
    answers-hold-again env asked d hand t name found f e l other (λ u c. free u c ∙ sym (apart u c))
