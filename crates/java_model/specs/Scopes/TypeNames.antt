-- What the identifiers of a type name mean (JLS 6.5.4, 6.5.5), each a package, a type or nothing.
use Rattle.std.specs.Prelude.{Bool, true, false, List, [], ◌∷◌, ◌++◌, Option, Some, None, map, option_to_list}
use Rattle.std.specs.List.{flat_map}
use Rattle.java_tree.specs.declared.bound.Bound.{Bound}
use Rattle.java_tree.specs.declared.occurrence.TypeId.{TypeId}
use Rattle.java_tree.specs.declared.types.JType.{JType}
use Rattle.java_tree.specs.declared.types.NameKind.{NameKind}
use Rattle.java_tree.specs.declared.types.NameKind.TheVariants as kinds
use Rattle.java_model.specs.Names.Lists.{Identifier, Identifiers, with_dots, the_one}
use Rattle.java_model.specs.Names.Environments.{Env, Declared, id_of, type_named}
use Rattle.java_model.specs.Names.TypeNames.{Ask, class_of, next_types}
use Rattle.java_model.specs.Names.Supertypes.{header_ask, resolve_in_header}
use Rattle.java_model.specs.Names.MemberTypes.{member_types}
use Rattle.java_model.specs.Grammar.Forms.{last_or}
use Rattle.java_model.specs.Scopes.Contexts.{Context, resolve_at}
use Rattle.java_model.specs.Scopes.NameKinds.{kind_or_nothing, package_kind, type_or_package}

-- What the identifiers of a name mean that is no type's: where it is a package's name each of them means a package
-- (JLS 6.5.3).
abbrev pub packages_before : NameKind → List NameKind → List NameKind
packages_before kinds.Package before = map (λ _. kinds.Package) before
packages_before _ before = before

abbrev pub as_package : List NameKind → List NameKind
as_package before = packages_before (last_or kinds.Nothing before) before

-- What one more identifier means: a member of the type before it, else a type of the package that the identifiers
-- before it name, and then they mean packages, else a package (JLS 6.5.4.2, 6.5.5.2).
abbrev pub with_next : Env → List NameKind → Identifiers → Identifier → List TypeId → List TypeId → List NameKind
with_next env before left name (t ∷ ts) found = before ++ kind_or_nothing kinds.Class (the_one (t ∷ ts)) ∷ []
with_next env before left name [] (t ∷ ts) = map (λ _. kinds.Package) before ++ kinds.Class t ∷ []
with_next env before left name [] [] = as_package before ++ package_kind env (left ++ name ∷ []) ∷ []

abbrev pub members_of : Ask → List TypeId → Identifier → List TypeId
members_of ask left name = flat_map (λ t. ask t name) (option_to_list (the_one left))

abbrev pub in_package : Env → Identifiers → Identifier → List TypeId
in_package env left name = option_to_list (type_named env (with_dots left) (name ∷ []))

-- the rest of a name, where the identifiers so far mean these types, none where they mean none
abbrev pub kinds_from : Env → Ask → List NameKind → List TypeId → Identifiers → Identifiers → List NameKind
kinds_from env ask before left spelled [] = before
kinds_from env ask before left spelled (x ∷ xs) =
    kinds_from env ask (with_next env before spelled x (members_of ask left x) (in_package env spelled x))
    (next_types env ask left spelled x) (spelled ++ x ∷ []) xs

abbrev pub kinds_by : Env → Ask → (Identifiers → JType) → Identifiers → List NameKind
kinds_by env ask mean [] = []
kinds_by env ask mean (x ∷ xs) =
    kinds_from env ask (type_or_package env (mean (x ∷ [])) x ∷ []) (class_of (mean (x ∷ []))) (x ∷ []) xs

-- at a place
abbrev pub type_name_kinds : Context → List Bound → Identifiers → List NameKind
type_name_kinds C s = kinds_by C.env (member_types C.env) (resolve_at C s)

-- in the header of a type
abbrev pub header_kinds : Env → Declared → TypeId → Identifiers → List NameKind
header_kinds env d t = kinds_by env (header_ask env t) (resolve_in_header env d t)

-- The name in a creation with a body is that of a supertype, in the header of an anonymous class (JLS 15.9.5).
abbrev pub created_kinds : Context → List Bound → Option Declared → Identifiers → List NameKind
created_kinds C s None = type_name_kinds C s
created_kinds C s (Some d) = header_kinds C.env d (id_of d)

abbrev pub created_type : Context → List Bound → Option Declared → Identifiers → JType
created_type C s None = resolve_at C s
created_type C s (Some d) = resolve_in_header C.env d (id_of d)

-- An import asks no scope: it begins with a type of the unnamed package, else with a package (JLS 7.5).
abbrev pub import_kinds : Env → Identifiers → List NameKind
import_kinds env = kinds_from env (member_types env) [] [] []

-- The name before `.*` is a package's where it isn't a type's (JLS 7.5.2).
abbrev pub kinds_in_import : Env → Bool → Identifiers → List NameKind
kinds_in_import env false name = import_kinds env name
kinds_in_import env true name = as_package (import_kinds env name)
