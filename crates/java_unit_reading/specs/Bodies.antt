-- How the bodies of anonymous classes that a parser of expressions passed over are read.
use Rattle.std.specs.Prelude.{◌≡◌, ◌≢◌, ◌-◌, ℕ, List, [], ◌∷◌, drop, Option, Some, None, Result, Ok, Err}
use Rattle.java_tree.specs.declared.limits.TheConstants.{MAX_DEPTH}
use Rattle.java_tree.specs.declared.expr.Primary.{Primary}
use Rattle.java_tree.specs.declared.unit.TypeDecl.{TypeDecl}
use Rattle.java_model.specs.Grammar.Signs.{Sign}
use Rattle.java_model.specs.Grammar.YieldExpr.{yield_primary}
use Rattle.java_expr_reading.specs.declared.parsed.PendingBody.{PendingBody}
use Rattle.java_unit_reading.specs.declared.fault.UnitFault.{UnitFault}
use Rattle.java_unit_reading.specs.declared.fault.UnitFault.TheVariants.{NoMemory}
use Rattle.java_unit_reading.specs.Reading.Steps.{state, Parser, Done, ◌>>=◌, pure}
use Rattle.java_unit_reading.specs.Reading.Nested.{Exprs, Found, Here, Nothing, Parts, Body, settle}

-- a body that was passed over, in all tokens
abbrev pub body_from : List Sign → PendingBody → Body
body_from all b = record { left = MAX_DEPTH - b.depth; tokens = drop b.first all }

-- the types after bodies were read, unless memory ran out
abbrev pub HasTypes : Option (List TypeDecl) → Result (List TypeDecl) UnitFault → Type 0
HasTypes types (Ok found) = types ≡ Some found
HasTypes types (Err e) = e ≢ NoMemory → types ≡ None

module _ (E : Exprs) (P : Parts) (d : ℕ) (w : Option ℕ) where
  abbrev pub qualifier_of : Found Primary → Parser (Option Primary)
  qualifier_of (Here p us) = settle E P d w yield_primary (Here p us) >>= λ q. pure (Some q)
  qualifier_of Nothing = pure None

  -- a primary expression before `.super(`, if one stands there (JLS 8.8.5.1)
  unfoldable pub qualifier : Parser (Option Primary)
  qualifier s = qualifier_of (E.primary d s.tokens) s
