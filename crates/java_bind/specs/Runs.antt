-- The identifiers of a name that name a package, by their number.
use Rattle.std.specs.Prelude.{ℕ, List, take, drop}
use Rattle.std.specs.List.{zip}
use Rattle.java_tree.specs.declared.names.Ident.{Ident}
use Rattle.java_tree.specs.declared.types.NameKind.{NameKind}
use Rattle.java_model.specs.Occurrences.References.{PackageRun}

abbrev pub run_of : List Ident → List NameKind → ℕ → PackageRun
run_of name ks at = record { run = take at name; rest = zip (drop at name) (drop at ks) }
