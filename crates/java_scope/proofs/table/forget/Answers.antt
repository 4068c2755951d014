use Rattle.std.proofs.Common.{false, nat_eq, refl, sym, ap, ◌∙◌, eq-eqb}
use Rattle.std.specs.Option.{option_map_or}
use Rattle.java_scope.proofs.table.forget.Goals as goal

pub take_back-requires : goal.take_back-requires
take_back-requires c = λ k e.
    c.requires c.in-Some.entry c.in-Some.is k (ap (λ o. option_map_or (nat_eq k) o false) (sym c.key_of.ensures ∙ e) ∙ eq-eqb k k refl)
