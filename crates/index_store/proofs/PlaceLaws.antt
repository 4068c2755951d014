-- The place of a container's next cell is where the acknowledged one yields.
use Rattle.std.proofs.Common.{◌≡◌, ℕ, ◌+◌, ◌-◌, ◌<◌, ◌≤◌, List, length, get_or, Option, None, Some, IsSome, IsNone, Result, Ok, Err, refl, sym, ◌∙◌, ap, subst, arith}
use Rattle.std.proofs.lemmas.Bool.{false≢true}
use Rattle.std.proofs.lemmas.List.{get_or_default}
use Rattle.java_model.specs.StateFile.Cells.{Cell as Says, pair_count}
use Rattle.index_states.specs.declared.cell.Cell.{Cell}
use Rattle.index_states.specs.Cells.{says_of}
use Rattle.index_store.specs.Kept.{Acked, Acks, kept_of, named_of, name_option, acknowledged, HasNot, Targets}
use Rattle.index_store.specs.Table.{Matches, IsTable, IsNamed, next_generation}
use Rattle.index_store.specs.Causes.{IsFull, IsWorn, IsPlace, Chooses, IsNext, Follows}
use Rattle.index_store.specs.declared.fault.SaveFault.{SaveFault}
use Rattle.index_store.specs.declared.place.Place.{Place}
use Rattle.index_store.proofs.Names.{first_at, first_none}

has_not : (name : List ℕ) (acked : Option Acked) (entry : Option Cell) → Matches acked entry → (IsNamed entry name → ⊥) → HasNot name (name_option acked)
has_not name None entry is apart = tt
has_not name (Some a) None is apart = absurd is
has_not name (Some a) (Some cell) is apart = λ named. apart (ap (λ (s : Says). s.name) (sym is.1) ∙ named)

held_too : (acked : Option Acked) (entry : Option Cell) → Matches acked entry → IsSome entry → IsSome acked
held_too None None is some = some
held_too None (Some cell) is some = absurd is
held_too (Some a) entry is some = refl

free_too : (acked : Option Acked) (entry : Option Cell) → Matches acked entry → IsNone entry → acked ≡ None
free_too None entry is none = refl
free_too (Some a) None is none = absurd is
free_too (Some a) (Some cell) is none = absurd (false≢true (sym none))

-- the container holds this pair first
module _ (acks : Acks) (name : List ℕ) (pair : ℕ) (low : pair < pair_count) (first : (before : ℕ) → before < pair → HasNot name (name_option (acks before))) where
  acknowledged_here : (a : Acked) → acks pair ≡ Some a → a.cell.name ≡ name → acknowledged acks name ≡ Some (kept_of a)
  acknowledged_here a is named = subst (λ (n : List ℕ). acknowledged acks n ≡ Some (kept_of a)) named
      (first_at (λ q. name_option (acks q)) (named_of a) pair pair_count 0 (omega arith) (omega arith) (λ q above below. subst (λ (n : List ℕ). HasNot n (name_option (acks q))) (sym named) (first q below)) (ap name_option is))

  is_place : (a : Acked) (cell : Cell) (place : Place) → acks pair ≡ Some a → a.side ≡ cell.side → a.cell ≡ says_of cell → cell.side < 2 → cell.name ≡ name → IsNext pair cell place → IsPlace acks name place
  is_place a cell place is side told two named next =
      let a_named : a.cell.name ≡ name = ap (λ (s : Says). s.name) told ∙ named in
      let a_next : a.cell.generation ≡ cell.generation = ap (λ (s : Says). s.generation) told in
      let here : acknowledged acks name ≡ Some (kept_of a) = acknowledged_here a is a_named in
      let after : next_generation (acknowledged acks name) ≡ cell.generation + 1 = ap next_generation here ∙ ap (λ (n : ℕ). n + 1) a_next in
      let turned : place.side ≡ 1 - cell.side = next.other two in
      record {
        two = next.two;
        low = subst (λ (p : ℕ). p < pair_count) (sym next.same) low;
        begun = omega (arith, next.next);
        last = omega (arith, next.next, next.below);
        generation = next.next ∙ sym after;
        has = record { pair = λ full. let none : Some (kept_of a) ≡ None = sym here ∙ full.0 in absurd (cc); generation = omega (arith, after, next.below) };
        target = λ says says_named says_next. subst (λ (p : ℕ). Targets acks p place.side says (acks p)) (sym next.same) (subst (λ o. Targets acks pair place.side says o) (sym is) (record {
          two = omega (arith, side, two);
          side_is = turned ∙ ap (λ (n : ℕ). 1 - n) (sym side);
          name_is = says_named ∙ sym a_named;
          next = says_next ∙ next.next ∙ ap (λ (n : ℕ). n + 1) (sym a_next);
          first = λ before below. subst (λ (n : List ℕ). HasNot n (name_option (acks before))) (sym says_named) (first before below);
        }));
      }

  is_worn : (a : Acked) (cell : Cell) → acks pair ≡ Some a → a.cell ≡ says_of cell → cell.name ≡ name → 4611686018427387904 ≤ cell.generation → IsWorn acks name
  is_worn a cell is told named last =
      let a_named : a.cell.name ≡ name = ap (λ (s : Says). s.name) told ∙ named in
      let a_next : a.cell.generation ≡ cell.generation = ap (λ (s : Says). s.generation) told in
      let after : next_generation (acknowledged acks name) ≡ cell.generation + 1 = ap next_generation (acknowledged_here a is a_named) ∙ ap (λ (n : ℕ). n + 1) a_next in
      omega (arith, after, last)

  chosen_here : (acked : Option Acked) (entry : Option Cell) (answer : Result Place SaveFault) → acks pair ≡ acked → Matches acked entry → IsNamed entry name → Follows pair entry answer → Chooses acks name answer
  chosen_here None None answer is same named follows = absurd named
  chosen_here None (Some cell) answer is same named follows = absurd same
  chosen_here (Some a) None answer is same named follows = absurd named
  chosen_here (Some a) (Some cell) (Ok place) is same named follows = is_place a cell place is same.0 same.1 same.2 named follows
  chosen_here (Some a) (Some cell) (Err fault) is same named follows =
      subst (λ (f : SaveFault). Chooses acks name (Err f)) (sym follows.0) (is_worn a cell is same.1 named follows.1)

pub held_chosen : (acks : Acks) (table : List (Option Cell)) (name : List ℕ) (pair : ℕ) (entry : Option Cell) (answer : Result Place SaveFault) → IsTable acks table → pair < length table
    → entry ≡ get_or table pair entry → IsNamed (get_or table pair None) name → ((before : ℕ) → before < pair → IsNamed (get_or table before None) name → ⊥)
    → Follows pair entry answer → Chooses acks name answer
held_chosen acks table name pair entry answer is low read named first follows =
    let there : entry ≡ get_or table pair None = read ∙ get_or_default table pair entry None low in
    let below : pair < pair_count = omega (arith, is.long, low) in
    chosen_here acks name pair below (λ before under. has_not name (acks before) (get_or table before None) (is.entries before (omega (arith, under, below))) (first before under))
    (acks pair) (get_or table pair None) answer refl (is.entries pair below) named (subst (λ (e : Option Cell). Follows pair e answer) there follows)

-- no pair holds the container
module _ (acks : Acks) (table : List (Option Cell)) (name : List ℕ) (is : IsTable acks table) (absent : (pair : ℕ) → pair < length table → IsNamed (get_or table pair None) name → ⊥) where
  new : (pair : ℕ) → pair < pair_count → HasNot name (name_option (acks pair))
  new pair below = has_not name (acks pair) (get_or table pair None) (is.entries pair below) (absent pair (omega (arith, is.long, below)))

  unknown : acknowledged acks name ≡ None
  unknown = first_none (λ q. name_option (acks q)) name pair_count 0 (λ q above below. new q (omega (arith, below)))

  pub free_chosen : (pair : ℕ) → pair < length table → IsNone (get_or table pair None) → ((before : ℕ) → before < pair → IsSome (get_or table before None))
      → IsPlace acks name (record { pair = pair; side = 0; generation = 1 })
  free_chosen pair low none first =
      let below : pair < pair_count = omega (arith, is.long, low) in
      let free : acks pair ≡ None = free_too (acks pair) (get_or table pair None) (is.entries pair below) none in
      let after : next_generation (acknowledged acks name) ≡ 1 = ap next_generation unknown in
      record {
        two = omega arith;
        low = below;
        begun = omega arith;
        last = omega arith;
        generation = sym after;
        has = record { pair = λ full. let some : IsSome (acks pair) = full.1 pair below in absurd (false≢true (subst IsSome free some)); generation = omega (arith, after) };
        target = λ says says_named says_next. subst (λ o. Targets acks pair 0 says o) (sym free) (record {
          side_is = refl;
          next = says_next;
          first = λ before under. held_too (acks before) (get_or table before None) (is.entries before (omega (arith, under, below))) (first before under);
          new = λ q under. subst (λ (n : List ℕ). HasNot n (name_option (acks q))) (sym says_named) (new q under);
        });
      }

  pub none_free : ((pair : ℕ) → pair < length table → IsSome (get_or table pair None)) → IsFull acks name
  none_free held = (unknown, λ pair below. held_too (acks pair) (get_or table pair None) (is.entries pair below) (held pair (omega (arith, is.long, below))))
