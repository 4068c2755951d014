-- A session goes on with a save or a mark: what is acknowledged stays whole, or is saved anew.
use Rattle.std.proofs.Common.{◌≡◌, ◌≢◌, ◌⊎◌, inl, inr, ⊎_elim, ℕ, suc, ◌≤◌, List, ◌∷◌, Option, Some, refl, sym, ◌∙◌, ap, subst, arith}
use Rattle.std.specs.List.{Contains}
use Rattle.java_model.specs.StateFile.Recovered.{Files, Kept, Named, recovered}
use Rattle.jx_disk.specs.Disk.{Image, LeavesOnly}
use Rattle.jx_disk.proofs.Moments.{widened}
use Rattle.index_store.specs.Kept.{Acks, AllHave, acknowledged, Recovers}
use Rattle.index_store.specs.Stores.{Keeps, IsBegun, IsWhole, InSession, SavedAs, beginning}
use Rattle.index_store.specs.Table.{next_generation}
use Rattle.index_store.specs.declared.store.Store.{Store}
use Rattle.index_store.proofs.Names.{same_bytes}

contains_more : (begun : List Named) (more x : Named) → Contains begun x → Contains (more ∷ begun) x
contains_more begun more x is = (suc is.0, omega (arith, is.1), is.2)

contains_first : (begun : List Named) (x : Named) → Contains (x ∷ begun) x
contains_first begun x = (0, omega arith, refl)

begun_more : (acks : Acks) (begun : List Named) (name : List ℕ) (more : Named) (found : Option Kept) → IsBegun acks begun name found → IsBegun acks (more ∷ begun) name found
begun_more acks begun name more found is = (is.0, is.1, contains_more begun more (record { name = name; kept = is.0 }) is.2, is.3)

pub whole_more : (acks : Acks) (begun : List Named) (more : Named) (image : Files) → IsWhole acks begun image → IsWhole acks (more ∷ begun) image
whole_more acks begun more image whole name = ⊎_elim (λ same. inl same) (λ is. inr (begun_more acks begun name more (recovered image name) is)) (whole name)

module _ (acks : Acks) (begun : List Named) (container : List ℕ) (kept : Kept) (next : kept.generation ≡ next_generation (acknowledged acks container)) where
  -- what is recovered under a name, where it was recovered before
  as_was : (was image : Files) (name : List ℕ) → recovered image name ≡ recovered was name → IsWhole acks begun was
      → (recovered image name ≡ acknowledged acks name) ⊎ IsBegun acks begun name (recovered image name)
  as_was was image name same whole =
      ⊎_elim (λ known. inl (same ∙ known)) (λ is. inr (is.0, same ∙ is.1, is.2, is.3)) (whole name)

  module _ (outcomes : Files → Type 0) (whole : (was : Files) → outcomes was → IsWhole acks begun was) where
    pub during : (image : Files) → Recovers acks outcomes container kept image → IsWhole acks (beginning container kept begun) image
    during image recovers name = by (recovers name)
      where
        by : (recovered image name ≡ acknowledged acks name)
            ⊎ (((was : Files) × outcomes was × (recovered image name ≡ recovered was name)) ⊎ ((name ≡ container) × (recovered image name ≡ Some kept)))
            → (recovered image name ≡ acknowledged acks name) ⊎ IsBegun acks (beginning container kept begun) name (recovered image name)
        by (inl known) = inl known
        by (inr (inl was)) =
            ⊎_elim (λ known. inl known) (λ is. inr (begun_more acks begun name (record { name = container; kept = kept }) (recovered image name) is))
            (as_was was.0 image name was.2 (whole was.0 was.1))
        by (inr (inr now)) = inr (
          kept,
          now.1,
          subst (λ (n : List ℕ). Contains (beginning container kept begun) (record { name = n; kept = kept })) (sym now.0) (contains_first begun (record { name = container; kept = kept })),
          next ∙ ap (λ (n : List ℕ). next_generation (acknowledged acks n)) (sym now.0),
        )

    pub after : (later : Acks) → acknowledged later container ≡ Some kept → ((other : List ℕ) → other ≢ container → acknowledged later other ≡ acknowledged acks other)
        → (image : Files) → recovered image container ≡ Some kept → Recovers acks outcomes container kept image → IsWhole later begun image
    after later anew others image there recovers name = elim (same_bytes name container) [
      | inl same ↦ inl (ap (recovered image) same ∙ there ∙ sym anew ∙ ap (acknowledged later) (sym same))
      | inr apart ↦ by apart (recovers name)
    ]
      where
        known_too : name ≢ container → (recovered image name ≡ acknowledged acks name) ⊎ IsBegun acks begun name (recovered image name) → (recovered image name ≡ acknowledged later name) ⊎ IsBegun later begun name (recovered image name)
        known_too apart (inl known) = inl (known ∙ sym (others name apart))
        known_too apart (inr is) = inr (is.0, is.1, is.2, is.3 ∙ ap next_generation (sym (others name apart)))

        by : name ≢ container → (recovered image name ≡ acknowledged acks name)
            ⊎ (((was : Files) × outcomes was × (recovered image name ≡ recovered was name)) ⊎ ((name ≡ container) × (recovered image name ≡ Some kept)))
            → (recovered image name ≡ acknowledged later name) ⊎ IsBegun later begun name (recovered image name)
        by apart (inl known) = known_too apart (inl known)
        by apart (inr (inl was)) = known_too apart (as_was was.0 image name was.2 (whole was.0 was.1))
        by apart (inr (inr now)) = absurd (apart now.0)

module _ {D : Type 0} (moment : D → ℕ) (left_since : D → ℕ → Image → Type 0) (may_leave : D → Image → Type 0)
    (counts_now : (disk : D) (t : ℕ) (image : Image) → t ≤ moment disk → may_leave disk image → left_since disk t image)
    (acks : Acks) (begun : List Named) (container : List ℕ) (kept : Kept) (next : kept.generation ≡ next_generation (acknowledged acks container))
    (old new : Store D) (session : InSession may_leave acks begun old)
    (run : LeavesOnly moment left_since old.disk new.disk (Recovers acks (may_leave old.disk) container kept)) where
  now_recovers : (image : Image) → may_leave new.disk image → Recovers acks (may_leave old.disk) container kept image
  now_recovers image left = run.each image (counts_now new.disk (moment old.disk) image run.later left)

  pub any_moment : LeavesOnly moment left_since old.disk new.disk (IsWhole acks (beginning container kept begun))
  any_moment =
      widened moment left_since old.disk new.disk (Recovers acks (may_leave old.disk) container kept) (IsWhole acks (beginning container kept begun)) run
      (λ image recovers. during acks begun container kept next (may_leave old.disk) session.whole image recovers)

  pub failed : Keeps may_leave acks new → InSession may_leave acks (beginning container kept begun) new
  failed keeps = record {
    keeps = keeps;
    whole = λ image left. during acks begun container kept next (may_leave old.disk) session.whole image (now_recovers image left);
  }

  pub saved : (later : Acks) → Keeps may_leave later new → acknowledged later container ≡ Some kept → ((other : List ℕ) → other ≢ container → acknowledged later other ≡ acknowledged acks other)
      → AllHave kept container (may_leave new.disk) → SavedAs may_leave acks begun container kept new
  saved later keeps anew others there = record {
    later = later;
    session = record {
      keeps = keeps;
      whole = λ image left. after acks begun container kept next (may_leave old.disk) session.whole later anew others image (there image left) (now_recovers image left);
    };
    anew = anew;
    others = others;
  }

-- where no call is made, a session stays as it is
pub stays : {D : Type 0} (may_leave : D → Image → Type 0) (acks : Acks) (begun : List Named) (more : Named) (old new : Store D) → new ≡ old → InSession may_leave acks begun old → InSession may_leave acks (more ∷ begun) new
stays may_leave acks begun more old new same session =
    subst (InSession may_leave acks (more ∷ begun)) (sym same) (record {
      keeps = session.keeps;
      whole = λ image left. whole_more acks begun more image (session.whole image left);
    })

pub still : {D : Type 0} (moment : D → ℕ) (left_since : D → ℕ → Image → Type 0) (may_leave : D → Image → Type 0)
    (only_now : (disk : D) (image : Image) → left_since disk (moment disk) image → may_leave disk image)
    (acks : Acks) (begun : List Named) (more : Named) (store : Store D) → InSession may_leave acks begun store → LeavesOnly moment left_since store.disk store.disk (IsWhole acks (more ∷ begun))
still moment left_since may_leave only_now acks begun more store session = record {
  later = omega arith;
  each = λ image left. whole_more acks begun more image (session.whole image (only_now store.disk image left));
  before = λ t image le left. inl left;
}
