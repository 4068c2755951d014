use Rattle.std.proofs.Common.{◌≡◌, ◌∷◌, ◌++◌, drop, take}
use Rattle.java_model.specs.Scopes.NameKinds.{kinds_after}
use Rattle.java_scope.proofs.following.kinds_from.Given as goal

-- the meanings so far, and those of the identifiers that are left
abbrev pub invariant-loop-at : goal.invariant-loop-at
invariant-loop-at l =
    l.kinds ++ l.kind ∷ kinds_after l.env l.kind (take l.at l.names) (drop l.at l.names) ≡ l.fn.first ∷ kinds_after l.env l.fn.first (take 1 l.names) (drop 1 l.names)
