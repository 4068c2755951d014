-- What a save that is acknowledged keeps of each container, and what one that isn't begun leaves.
use Rattle.std.proofs.Common.{◌≡◌, ◌≢◌, ⊎_elim, inl, inr, ℕ, ◌<◌, ◌≤◌, true, false, List, length, Option, None, Some, Result, Ok, Err, OnOk, OnErr, IsTrue, refl, sym, ◌∙◌, ap, subst, arith, rules}
use Rattle.std.specs.Str.{is_utf8}
use Rattle.java_tree.specs.Names.{is_container}
use Rattle.java_model.specs.StateFile.Cells.{Cell as Says, is_sound, pair_count, longest_image, greatest_generation}
use Rattle.java_model.specs.StateFile.Recovered.{Kept, Named}
use Rattle.jx_disk.specs.Disk.{Image, LeavesOnly}
use Rattle.index_store.specs.Kept.{Acked, acked_as, Acks, kept_of, named_of, name_option, acknowledged, HasNot, Targets, Recovers, acknowledging}
use Rattle.index_store.specs.Table.{next_generation}
use Rattle.index_store.specs.Causes.{Chooses, TellsSave, TellsMark}
use Rattle.index_store.specs.declared.fault.SaveFault.{SaveFault}
use Rattle.index_store.specs.declared.fault.SaveFault.TheVariants.{TooLong, Full, Worn, Disk, NoMemory}
use Rattle.index_store.proofs.Staged.{acked_here, acked_elsewhere}
use Rattle.index_store.proofs.Holding.{held_name, held_others, new_name, free_others}

module _ (acks : Acks) (pair side : ℕ) (low : pair < pair_count) (says : Says) (image : List ℕ) where
  abbrev here : Acked
  here = acked_as side says image

  abbrev held : ℕ → Option Named
  held = λ q. name_option (acknowledging acks pair here q)

  abbrev was : ℕ → Option Named
  was = λ q. name_option (acks q)

  elsewhere : (q : ℕ) → q < pair_count → q ≢ pair → held q ≡ was q
  elsewhere q below apart = ap name_option (acked_elsewhere acks pair q here apart)

  held_here : held pair ≡ Some (named_of here)
  held_here = ap name_option (acked_here acks pair here)

  anew_at : (before : Option Acked) → acks pair ≡ before → Targets acks pair side says before → acknowledged (acknowledging acks pair here) says.name ≡ Some (kept_of here)
  anew_at (Some a) is target =
      let first = λ (q : ℕ) (below : q < pair). subst (λ (n : List ℕ). HasNot n (name_option (acks q))) target.name_is (target.first q below) in
      ap (acknowledged (acknowledging acks pair here)) target.name_is ∙ held_name acks pair low held was elsewhere (λ q below. inl refl) a is first (named_of here) held_here target.name_is
  anew_at None is target = new_name acks pair low held was elsewhere (λ q below. inl refl) is target.first (named_of here) target.new held_here

  others_at : (before : Option Acked) → acks pair ≡ before → Targets acks pair side says before → (other : List ℕ) → other ≢ says.name → acknowledged (acknowledging acks pair here) other ≡ acknowledged acks other
  others_at (Some a) is target other apart =
      let first = λ (q : ℕ) (below : q < pair). subst (λ (n : List ℕ). HasNot n (name_option (acks q))) target.name_is (target.first q below) in
      held_others acks pair low held was elsewhere (λ q below. inl refl) a is first (named_of here) other held_here target.name_is (λ e. apart (e ∙ sym target.name_is))
  others_at None is target other apart =
      let has : HasNot other (held pair) = subst (HasNot other) (sym held_here) (λ e. apart (sym e)) in
      ⊎_elim (λ same. same) (λ same. same) (free_others acks pair low held was elsewhere (λ q below. inl refl) is target.first other has)

  pub anew : Targets acks pair side says (acks pair) → acknowledged (acknowledging acks pair here) says.name ≡ Some (kept_of here)
  anew = anew_at (acks pair) refl

  -- with the generation that comes next
  pub anew_next : Targets acks pair side says (acks pair) → says.generation ≡ next_generation (acknowledged acks says.name)
      → acknowledged (acknowledging acks pair here) says.name ≡ Some (record { rebuild = says.rebuild; generation = next_generation (acknowledged acks says.name); size = says.size; image = image })
  anew_next target next = anew target ∙ ap (λ (n : ℕ). Some (record { rebuild = says.rebuild; generation = n; size = says.size; image = image })) next

  pub others_stay : Targets acks pair side says (acks pair) → (other : List ℕ) → other ≢ says.name → acknowledged (acknowledging acks pair here) other ≡ acknowledged acks other
  others_stay = others_at (acks pair) refl

-- where no call is made
pub unchanged : {D : Type 0} (moment : D → ℕ) (left_since : D → ℕ → Image → Type 0) (may_leave : D → Image → Type 0)
    (only_now : (disk : D) (image : Image) → left_since disk (moment disk) image → may_leave disk image) (disk : D) (acks : Acks) (name : List ℕ) (kept : Kept)
    → LeavesOnly moment left_since disk disk (Recovers acks (may_leave disk) name kept)
unchanged moment left_since may_leave only_now disk acks name kept = record {
  later = omega arith;
  each = λ image left other. inr (inl (image, only_now disk image left, refl));
  before = λ t image le left. inl left;
}

pub container_short : (name : List ℕ) → IsTrue (is_container name) → length name ≤ 200
container_short name is = search rules

pub sound_image : (generation size : ℕ) (name : List ℕ) → 1 ≤ generation → generation ≤ greatest_generation → size ≤ longest_image → IsTrue (is_utf8 name) → IsTrue (is_container name)
    → IsTrue (is_sound (record { rebuild = false; generation = generation; size = size; name = name }))
sound_image generation size name begun last short text legal = search rules

pub sound_mark : (generation : ℕ) (name : List ℕ) → 1 ≤ generation → generation ≤ greatest_generation → IsTrue (is_utf8 name) → IsTrue (is_container name)
    → IsTrue (is_sound (record { rebuild = true; generation = generation; size = 0; name = name }))
sound_mark generation name begun last text legal = search rules

pub on_ok : {T E P Q : Type 0} (answer : Result T E) → (P → Q) → OnOk answer P → OnOk answer Q
on_ok (Ok v) f p = f p
on_ok (Err e) f p = tt

pub any_ok : {T E P : Type 0} (answer : Result T E) → P → OnOk answer P
any_ok (Ok v) p = p
any_ok (Err e) p = tt

pub on_ok_both : {T E P Q R : Type 0} (answer : Result T E) → (P → Q → R) → OnOk answer P → OnOk answer Q → OnOk answer R
on_ok_both (Ok v) f p q = f p q
on_ok_both (Err e) f p q = tt

pub on_err : {T E P Q : Type 0} (answer : Result T E) → (P → Q) → OnErr answer P → OnErr answer Q
on_err (Ok v) f p = tt
on_err (Err e) f p = f p

pub refused : (acks : Acks) (name : List ℕ) (size : ℕ) (fault : SaveFault) → size ≤ longest_image → Chooses acks name (Err fault) → TellsSave acks name size (Err fault)
refused acks name size (TooLong n) short why = absurd why
refused acks name size (Full n) short why = (short, why)
refused acks name size Worn short why = (short, why)
refused acks name size Disk short why = absurd why
refused acks name size NoMemory short why = absurd why

pub refused_mark : (acks : Acks) (name : List ℕ) (fault : SaveFault) → Chooses acks name (Err fault) → TellsMark acks name (Err fault)
refused_mark acks name (TooLong n) why = why
refused_mark acks name (Full n) why = why
refused_mark acks name Worn why = why
refused_mark acks name Disk why = absurd why
refused_mark acks name NoMemory why = absurd why
