-- A unit in its environment, as the code holds it.
use Rattle.java_model.specs.Scopes.Contexts.{Context}
use Rattle.java_scope.specs.declared.unit_context.UnitContext.{UnitContext}

abbrev pub context : UnitContext → Context
context u = record { env = u.env.now; outline = u.outline.now; first = u.first; types = u.types.types.now }
