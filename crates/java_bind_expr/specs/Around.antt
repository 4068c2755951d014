-- The types around a place that have a method, and the type in which a call looks for it.
use Rattle.std.specs.Prelude.{List, [], ◌∷◌, Option, None}
use Rattle.std.specs.Option.{option_or}
use Rattle.java_tree.specs.declared.bound.Bound.{Bound}
use Rattle.java_tree.specs.declared.occurrence.TypeId.{TypeId}
use Rattle.java_tree.specs.declared.types.NameKind.{NameKind}
use Rattle.java_model.specs.Grammar.Forms.{last_or}
use Rattle.java_model.specs.Names.Lists.{Identifier}
use Rattle.java_model.specs.Names.Environments.{Env}
use Rattle.java_model.specs.Names.Methods.{methods}
use Rattle.java_model.specs.Bindings.Calls.{enclosing_type, if_any, qualifying_type, receiving_type}
use Rattle.java_model.specs.Scopes.Contexts.{Context}

abbrev pub first_with_method : Env → Identifier → List TypeId → Option TypeId
first_with_method env name [] = None
first_with_method env name (t ∷ ts) = option_or (if_any t (methods env t name)) (first_with_method env name ts)

-- the type before the name of a method, given what the identifiers before it mean (JLS 15.12.1)
abbrev pub type_after : Context → List Bound → List NameKind → Identifier → Option TypeId
type_after C s [] name = enclosing_type C s name
type_after C s (k ∷ ks) name = receiving_type C.env (qualifying_type C.env (last_or k ks))
