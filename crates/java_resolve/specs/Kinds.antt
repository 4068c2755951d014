-- What the identifiers of names mean.
use Rattle.std.specs.Prelude.{Bool, true, false, List, []}
use Rattle.java_tree.specs.declared.types.NameKind.{NameKind}
use Rattle.java_tree.specs.declared.types.NameKind.TheVariants as kinds
use Rattle.java_model.specs.Names.Environments.{Env}
use Rattle.java_model.specs.Names.Lists.{Identifiers}
use Rattle.java_model.specs.Names.TypeNames.{Ask}
use Rattle.java_model.specs.Scopes.TypeNames.{as_package, kinds_from}

abbrev pub is_package : NameKind → Bool
is_package kinds.Package = true
is_package _ = false

-- The name of an import asks no scope (JLS 7.5). The name before `.*` is a package's where it isn't a type's (JLS 7.5.2).
abbrev pub kinds_in_import_by : Env → Ask → Bool → Identifiers → List NameKind
kinds_in_import_by env ask false name = kinds_from env ask [] [] [] name
kinds_in_import_by env ask true name = as_package (kinds_from env ask [] [] [] name)
