-- What a walk over a tree finds: the types that are declared in it.
use Rattle.std.specs.Prelude.{◌≡◌, ℕ, List, ◌++◌, map, reverse}
use Rattle.java_model.specs.Grammar.Forms.{last_or}
use Rattle.java_model.specs.Grammar.Pieces.{Yield, Hole, Around}
use Rattle.java_model.specs.Grammar.Runs.{holes_of}
use Rattle.java_model.specs.Grammar.YieldStmt.{Step}
use Rattle.java_model.specs.Outlines.{spelled_name, no_span}
use Rattle.java_document.specs.declared.hole.FoundHole.{FoundHole}
use Rattle.java_document.specs.declared.scope.Scope.{Scope}

abbrev pub kept : Hole → FoundHole
kept h = record {
  brace = h.brace;
  place = h.place;
  created = spelled_name h.created;
  span = last_or no_span (map (λ i. i.span) h.created);
  locals = h.around.locals;
}

-- the local classes in scope, innermost first
abbrev pub locals_in : Scope → List ℕ
locals_in scope = reverse scope.own.items ++ scope.base.now

-- where these local classes are in scope, the holes of what stands there are found, after those before
pub record Finds (locals : List ℕ) (y : Yield) (before after : List FoundHole) : Type 0 where
  pub found : (a : Around) → a.locals ≡ locals → after ≡ before ++ map kept (holes_of (y a))

-- one scope is another one with some local classes more in it
pub record Enters (outer inner : Scope) : Type 0 where
  pub more : List ℕ
  pub base : inner.base.now ≡ outer.base.now
  pub own : inner.own.items ≡ outer.own.items ++ more

-- the same in a scope that may grow
pub record Passes (step : Step) (outer inner : Scope) (before after : List FoundHole) : Type 0 where
  pub enters : Enters outer inner
  pub finds : Finds (locals_in outer) step.yields before after
  pub leaves : (a : Around) → a.locals ≡ locals_in outer → (step.leaves a).locals ≡ locals_in inner

-- the same in a scope that is as it was afterwards
pub record Keeps (y : Yield) (outer inner : Scope) (before after : List FoundHole) : Type 0 where
  pub base : inner.base.now ≡ outer.base.now
  pub own : inner.own.items ≡ outer.own.items
  pub finds : Finds (locals_in outer) y before after
