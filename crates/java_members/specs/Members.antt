-- Members of all kinds, by their type and place.
use Rattle.std.specs.Prelude.{◌≡◌, ◌==◌, ◌&&◌, Bool, true, List, [], ◌∷◌, ⊤}
use Rattle.std.specs.Ordering.{nat_cmp, on, then_cmp}
use Rattle.std.specs.declared.cmp.Ordering.{Ordering}
use Rattle.std.specs.declared.cmp.Ordering.TheVariants.{Less}
use Rattle.java_model.specs.Names.Lists.{is_among}
use Rattle.java_members.specs.declared.member.Member.{Member}

abbrev pub same_member : Member → Member → Bool
same_member m n = (m.of == n.of) && (m.place == n.place)

-- the same members, in whatever order and however often
pub record Same (ms ns : List Member) : Type 0 where
  pub each : (m : Member) → is_among same_member m ms ≡ is_among same_member m ns

-- by type, then by place
abbrev pub order : Member → Member → Ordering
order = then_cmp (on (λ m. m.of) nat_cmp) (on (λ m. m.place) nat_cmp)

-- Each stands before all later ones.
abbrev pub Rising : List Member → Type 0
Rising [] = ⊤
Rising (m ∷ ms) = ((n : Member) → is_among same_member n ms ≡ true → order m n ≡ Less) × Rising ms
