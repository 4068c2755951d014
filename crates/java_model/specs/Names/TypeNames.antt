-- What a type name means (JLS 6.3, 6.5.4, 6.5.5, 7.5), given the answers about member types.
use Rattle.std.specs.Prelude.{ℕ, ◌+◌, Bool, false, not, ◌&&◌, ◌==◌, cond, List, [], ◌∷◌, ◌++◌, Option, Some, None, map, drop, unwrap_or, option_map, option_to_list}
use Rattle.std.specs.List.{filter, flat_map, find, last_or}
use Rattle.std.specs.Option.{option_map_or}
use Rattle.std.specs.Str.{bytes_eq}
use Rattle.java_tree.specs.declared.occurrence.TypeId.{TypeId}
use Rattle.java_tree.specs.declared.outline.ImportName.{ImportName}
use Rattle.java_tree.specs.declared.outline.Outline.{Outline}
use Rattle.java_tree.specs.declared.outline.OutlineType.{OutlineType}
use Rattle.java_tree.specs.declared.types.JType.{JType}
use Rattle.java_tree.specs.declared.types.JType.TheVariants as types
use Rattle.java_model.specs.Names.Lists.{Identifier, Identifiers, with_dots, or_else, otherwise, the_one, fresh}
use Rattle.java_model.specs.Names.Environments.{Env, Declared, declared_at, is_local, around, type_in, type_id, same_id, type_named, java_lang}

-- the member types of a name that a type has
abbrev pub Ask : Type 0
Ask = TypeId → Identifier → List TypeId

-- What brings types into scope around a place: a local class, or the body of a type (JLS 6.3, 14.3).
pub data TypeBound : Type 0 where
  LocalClass : TypeId → TypeBound
  Body : TypeId → TypeBound

-- where a type name stands: the package and imports of its document, and what is around it, innermost first
pub record TypeScope : Type 0 where
  pub outline : Outline
  pub bounds : List TypeBound

-- The local classes in scope at the header of a type, of which `outer` are in scope in the body around it.
abbrev pub header_locals : OutlineType → List ℕ → List ℕ
header_locals t outer = cond (is_local t) t.locals outer

-- A local class is in scope in its own body (JLS 14.3).
abbrev pub with_itself : OutlineType → ℕ → List ℕ → List ℕ
with_itself t number locals = cond t.local (number ∷ locals) locals

-- the local classes in scope in the body of the first of these types, each of which is in the next, innermost first
abbrev pub body_locals : Declared → List ℕ → List ℕ
body_locals d [] = []
body_locals d (n ∷ ns) = option_map_or (λ t. with_itself t n (header_locals t (body_locals d ns))) (type_in d n) []

abbrev pub is_declared_in : Declared → ℕ → ℕ → Bool
is_declared_in d body n = option_map_or (λ t. option_map_or (λ p. p == body) t.parent false) (type_in d n) false

-- what is around a place in the body of the first of these types, where these local classes are in scope
abbrev pub bounds_around : Declared → List ℕ → List ℕ → List TypeBound
bounds_around d locals [] = []
bounds_around d locals (n ∷ ns) =
    map (λ l. LocalClass (type_id (d.first + l))) (filter (is_declared_in d n) locals)
    ++ Body (type_id (d.first + n)) ∷ bounds_around d locals ns

abbrev pub body_scope : Declared → TypeScope
body_scope d = record { outline = d.outline; bounds = bounds_around d (body_locals d (around d)) (around d) }

-- A header lies outside its body (JLS 8.1.3, 8.1.4, 8.5).
abbrev pub header_scope : Declared → TypeScope
header_scope d = let outer = drop 1 (around d) in
    record { outline = d.outline; bounds = bounds_around d (header_locals d.type (body_locals d outer)) outer }

-- the types that one bound gives a name
abbrev pub is_called : Env → Identifier → TypeId → Bool
is_called env name t = option_map_or (λ d. bytes_eq name d.type.name) (declared_at env t) false

abbrev pub types_at : Env → Ask → Identifier → TypeBound → List TypeId
types_at env ask name (LocalClass t) = cond (is_called env name t) (t ∷ []) []
types_at env ask name (Body t) = ask t name

-- The innermost bound that gives any counts (JLS 6.3.1).
abbrev pub types_within : Env → Ask → Identifier → List TypeBound → List TypeId
types_within env ask name [] = []
types_within env ask name (b ∷ bs) = or_else (types_at env ask name b) (λ _. types_within env ask name bs)

-- Several types of one name are none.
abbrev pub meaning : Identifiers → List TypeId → Option JType
meaning spelled [] = None
meaning spelled (t ∷ []) = Some (types.Class t)
meaning spelled (t ∷ u ∷ ts) = Some (types.Absent spelled)

abbrev pub or_absent : Identifiers → Option JType → JType
or_absent spelled found = unwrap_or found (types.Absent spelled)

abbrev pub class_of : JType → List TypeId
class_of (types.Class t) = t ∷ []
class_of _ = []

-- The next identifier of a name whose identifiers so far mean a type or a package: a member of that type, else a
-- type of that package (JLS 6.5.5.2).
abbrev pub next_types : Env → Ask → List TypeId → Identifiers → Identifier → List TypeId
next_types env ask left spelled name =
    or_else (flat_map (λ t. ask t name) (option_to_list (the_one left)))
    (λ _. option_to_list (type_named env (with_dots spelled) (name ∷ [])))

abbrev pub types_after : Env → Ask → List TypeId → Identifiers → Identifiers → List TypeId
types_after env ask left spelled [] = left
types_after env ask left spelled (x ∷ xs) = types_after env ask (next_types env ask left spelled x) (spelled ++ x ∷ []) xs

-- The name of an import asks no scope: it begins with a type of the unnamed package, or with a package (JLS 7.5).
abbrev pub import_types : Env → Ask → Identifiers → List TypeId
import_types env ask = types_after env ask [] []

abbrev pub import_type : Env → Ask → Identifiers → JType
import_type env ask name = or_absent name (meaning name (import_types env ask name))

-- a single-type import of a name (JLS 7.5.1), the first of several
abbrev pub imports_name : Identifier → ImportName → Bool
imports_name name i = not i.star && option_map_or (bytes_eq name) (last_or None i.name) false

abbrev pub imported : Env → Ask → Outline → Identifier → Option JType
imported env ask o name = option_map (λ i. import_type env ask i.name) (find (imports_name name) o.imports)

-- a type-import-on-demand declaration, of a type or a package (JLS 7.5.2)
abbrev pub in_imported_type : Env → Ask → Identifiers → Identifier → List TypeId → List TypeId
in_imported_type env ask spelled name (t ∷ []) = ask t name
in_imported_type env ask spelled name _ = option_to_list (type_named env (with_dots spelled) (name ∷ []))

abbrev pub on_demand_by : Env → Ask → Identifier → ImportName → List TypeId
on_demand_by env ask name i = cond i.star (in_imported_type env ask i.name name (import_types env ask i.name)) []

-- those of all such declarations, and of `java.lang` (JLS 7.5.3)
abbrev pub on_demand : Env → Ask → Outline → Identifier → List TypeId
on_demand env ask o name =
    fresh same_id [] (flat_map (on_demand_by env ask name) o.imports ++ option_to_list (type_named env (with_dots java_lang) (name ∷ [])))

-- the type of the document's own package (JLS 6.3, 7.6)
abbrev pub of_package : Env → Outline → Identifier → List TypeId
of_package env o name = option_to_list (type_named env (with_dots o.«package») (name ∷ []))

-- JLS 6.5.5.1
abbrev pub simple_type : Env → Ask → TypeScope → Identifier → JType
simple_type env ask s name = let spelled = name ∷ [] in
    or_absent spelled
    (otherwise (meaning spelled (types_within env ask name s.bounds))
    (λ _. otherwise (imported env ask s.outline name)
    (λ _. otherwise (meaning spelled (of_package env s.outline name))
    (λ _. meaning spelled (on_demand env ask s.outline name)))))

-- what a type name means at a place: Class or Absent (JLS 6.5.5)
abbrev pub resolve_by : Env → Ask → TypeScope → Identifiers → JType
resolve_by env ask s [] = types.Absent []
resolve_by env ask s (x ∷ []) = simple_type env ask s x
resolve_by env ask s (x ∷ y ∷ ys) =
    or_absent (x ∷ y ∷ ys) (meaning (x ∷ y ∷ ys) (types_after env ask (class_of (simple_type env ask s x)) (x ∷ []) (y ∷ ys)))
