-- The occurrences in a name: of the package before a type, of types, of fields, and of what is bound to nothing.
use Rattle.std.specs.Prelude.{ℕ, Bool, true, false, List, [], ◌∷◌, ◌++◌}
use Rattle.std.specs.List.{zip}
use Rattle.java_tree.specs.declared.names.Ident.{Ident}
use Rattle.java_tree.specs.declared.occurrence.Access.{Access}
use Rattle.java_tree.specs.declared.occurrence.Access.TheVariants.{NoAccess, Read}
use Rattle.java_tree.specs.declared.occurrence.Accuracy.{Accuracy}
use Rattle.java_tree.specs.declared.occurrence.Accuracy.TheVariants.{Accurate, Inaccurate}
use Rattle.java_tree.specs.declared.occurrence.Binding.{Binding}
use Rattle.java_tree.specs.declared.occurrence.Binding.TheVariants as bindings
use Rattle.java_tree.specs.declared.occurrence.OccKind.{OccKind}
use Rattle.java_tree.specs.declared.occurrence.OccKind.TheVariants as occurs
use Rattle.java_tree.specs.declared.occurrence.Occurrence.{Occurrence}
use Rattle.java_tree.specs.declared.token.Span.{Span}
use Rattle.java_tree.specs.declared.types.NameKind.{NameKind}
use Rattle.java_tree.specs.declared.types.NameKind.TheVariants as kinds
use Rattle.java_model.specs.Grammar.Forms.{last_or}
use Rattle.java_model.specs.Outlines.{spelled_name}
use Rattle.java_model.specs.Names.Lists.{Identifier, with_dots}

abbrev pub accuracy_of : Binding → Accuracy
accuracy_of bindings.Nothing = Inaccurate
accuracy_of _ = Accurate

-- what is bound is accurate (JDT `SearchMatch.A_ACCURATE`)
abbrev pub occurrence : OccKind → Span → Identifier → ℕ → Binding → Access → Occurrence
occurrence kind span name count binding access =
    record { kind = kind; span = span; name = name; count = count; binding = binding; accuracy = accuracy_of binding; access = access }

-- an identifier of this kind, that no access has
abbrev pub mention : OccKind → Ident → Binding → Occurrence
mention kind i binding = occurrence kind i.span i.name 0 binding NoAccess

-- Where a name stands, which tells what its last identifier may mean (JLS 6.5.1).
pub data Role : Type 0 where
  -- a type name
  as_type : Role
  -- the name of a type-import-on-demand declaration (JLS 7.5.2)
  as_import : Role
  -- before a method's name (JLS 15.12)
  as_qualifier : Role
  -- an expression name, whose variable is used so (JLS 6.5.6)
  as_variable : Access → Role

-- what the last identifier means, in a role
abbrev pub last_kind : Role → NameKind → NameKind
last_kind as_type (kinds.Class t) = kinds.Class t
last_kind as_type _ = kinds.Nothing
last_kind (as_variable how) (kinds.Local t) = kinds.Local t
last_kind (as_variable how) (kinds.Field f) = kinds.Field f
last_kind (as_variable how) _ = kinds.Nothing
last_kind _ kind = kind

-- the access of the last identifier, where it is a field
abbrev pub last_access : Role → Access
last_access (as_variable how) = how
last_access _ = Read

-- a last identifier that is bound to nothing
abbrev pub unbound_last : Role → Ident → Occurrence
unbound_last as_type i = mention occurs.TypeRef i bindings.Nothing
unbound_last (as_variable how) i = occurrence occurs.FieldRef i.span i.name 0 bindings.Nothing how
unbound_last _ i = occurrence occurs.NameRef i.span i.name 0 bindings.Nothing Read

-- An identifier that means a local variable or a package has no occurrence of its own.
abbrev pub identifier_in : Access → Occurrence → Ident → NameKind → List Occurrence
identifier_in how unbound i (kinds.Class t) = mention occurs.TypeRef i (bindings.Class t) ∷ []
identifier_in how unbound i (kinds.Field f) = occurrence occurs.FieldRef i.span i.name 0 (bindings.Field f) how ∷ []
identifier_in how unbound i kinds.Nothing = unbound ∷ []
identifier_in how unbound i _ = []

-- each identifier of a name with what it means
abbrev pub identifiers_in : Role → List (Ident × NameKind) → List Occurrence
identifiers_in role [] = []
identifiers_in role (x ∷ []) = identifier_in (last_access role) (unbound_last role x.0) x.0 x.1
identifiers_in role (x ∷ y ∷ more) =
    identifier_in Read (unbound_last as_qualifier x.0) x.0 x.1 ++ identifiers_in role (y ∷ more)

-- the identifiers that name a package from the left, before `done`, and what follows them
pub record PackageRun : Type 0 where
  pub run : List Ident
  pub rest : List (Ident × NameKind)

abbrev pub package_run : List Ident → List (Ident × NameKind) → PackageRun
package_run done [] = record { run = done; rest = [] }
package_run done ((i, kinds.Package) ∷ more) = package_run (done ++ i ∷ []) more
package_run done (x ∷ more) = record { run = done; rest = x ∷ more }

-- a package counts before a type, before a last identifier that isn't declared as a type, and before `.*`
abbrev pub counts_before : Role → List (Ident × NameKind) → Bool
counts_before as_import [] = true
counts_before role [] = false
counts_before role ((i, kinds.Class t) ∷ more) = true
counts_before as_type ((i, kinds.Nothing) ∷ []) = true
counts_before role _ = false

abbrev pub no_span : Span
no_span = record { start = 0; end = 0 }

-- from the first identifier to the last
abbrev pub whole_span : List Ident → Span
whole_span [] = no_span
whole_span (i ∷ more) = record { start = i.span.start; end = (last_or i more).span.end }

abbrev pub package_named : OccKind → List Ident → Occurrence
package_named kind run =
    let name = with_dots (spelled_name run) in occurrence kind (whole_span run) name 0 (bindings.Package name) NoAccess

abbrev pub package_in : Role → List Ident → List (Ident × NameKind) → Bool → List Occurrence
package_in role [] rest counts = []
package_in role (i ∷ run) rest false = []
package_in role (i ∷ run) rest true = package_named occurs.PackageRef (i ∷ run) ∷ []

-- A last identifier that only means a package is bound to nothing where a type or a variable is meant.
abbrev pub with_last_kind : Role → List NameKind → List NameKind
with_last_kind role [] = []
with_last_kind role (k ∷ []) = last_kind role k ∷ []
with_last_kind role (k ∷ l ∷ more) = k ∷ with_last_kind role (l ∷ more)

-- the occurrences in a name, given what its identifiers mean
abbrev pub occurrences_in : Role → List Ident → List NameKind → List Occurrence
occurrences_in role name kinds =
    let marked = zip name (with_last_kind role kinds) in
    let found = package_run [] marked in
    package_in role found.run found.rest (counts_before role found.rest) ++ identifiers_in role found.rest
