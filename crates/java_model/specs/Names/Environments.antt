-- The types that the documents declare, numbered through all documents in order.
use Rattle.std.specs.Prelude.{ℕ, zero, suc, ◌+◌, Bool, true, false, not, ◌&&◌, ◌||◌, ◌==◌, cond, List, [], ◌∷◌, ◌++◌, Option, Some, None, map, reverse, length, slice_get, take, codes, unwrap_or, option_map}
use Rattle.std.specs.List.{list_any, position}
use Rattle.std.specs.Option.{option_and_then, option_map_or}
use Rattle.std.specs.Str.{bytes_eq}
use Rattle.java_tree.specs.declared.occurrence.TypeId.{TypeId}
use Rattle.java_tree.specs.declared.outline.Outline.{Outline}
use Rattle.java_tree.specs.declared.outline.OutlineType.{OutlineType}
use Rattle.java_tree.specs.declared.outline.TypeKind.{TypeKind}
use Rattle.java_tree.specs.declared.outline.TypeKind.TheVariants as kinds
use Rattle.java_tree.specs.declared.types.DocPath.{DocPath}
use Rattle.java_tree.specs.declared.types.TypeInfo.{TypeInfo}
use Rattle.java_model.specs.Names.Lists.{Identifier, Identifiers, same_name, with_dots}

-- a readable document: where it is, and what it declares and imports
pub record EnvDocument : Type 0 where
  pub path : DocPath
  pub outline : Outline

-- the readable documents, in order of container, then path
abbrev pub Env : Type 0
Env = List EnvDocument

-- A declared type: its document, none for one that no document declares, the outline, the number of the
-- outline's first type in the environment, and its own number in the outline.
pub record Declared : Type 0 where
  pub doc : Option DocPath
  pub outline : Outline
  pub first : ℕ
  pub number : ℕ
  pub type : OutlineType

-- the types of one outline from a number on
abbrev pub declared_in : Option DocPath → Outline → ℕ → ℕ → List OutlineType → List Declared
declared_in doc outline first number [] = []
declared_in doc outline first number (t ∷ ts) =
    record { doc = doc; outline = outline; first = first; number = number; type = t } ∷ declared_in doc outline first (number + 1) ts

abbrev pub declared_by : ℕ → List EnvDocument → List Declared
declared_by first [] = []
declared_by first (d ∷ ds) =
    declared_in (Some d.path) d.outline first 0 d.outline.types ++ declared_by (first + length d.outline.types) ds

-- A type and the types around it, innermost first, of which there are at most so many (JLS 8.5, 14.3).
abbrev pub outward : (ℕ → Option ℕ) → ℕ → Option ℕ → List ℕ
outward parent zero number = []
outward parent (suc d) None = []
outward parent (suc d) (Some n) = n ∷ outward parent d (parent n)

abbrev pub type_in : Declared → ℕ → Option OutlineType
type_in d n = slice_get d.outline.types n

abbrev pub around : Declared → List ℕ
around d = outward (λ n. option_and_then (λ t. t.parent) (type_in d n)) (length d.outline.types) (Some d.number)

-- the names of the types around a type, outermost first, and its own (JLS 6.7)
abbrev pub names_of : Declared → Identifiers
names_of d = reverse (map (λ n. option_map_or (λ t. t.name) (type_in d n) []) (around d))

abbrev pub package_of : Declared → List ℕ
package_of d = with_dots d.outline.package

abbrev pub is_anonymous : TypeKind → Bool
is_anonymous kinds.Class = false
is_anonymous kinds.Interface = false
is_anonymous kinds.Anonymous = true

abbrev pub is_interface : TypeKind → Bool
is_interface kinds.Class = false
is_interface kinds.Interface = true
is_interface kinds.Anonymous = false

-- A local or anonymous class has no qualified name, nor has a type in the body of one (JLS 6.7).
abbrev pub is_local : OutlineType → Bool
is_local t = t.local || is_anonymous t.kind

abbrev pub is_unqualified : Declared → Bool
is_unqualified d = list_any (λ n. option_map_or is_local (type_in d n) false) (around d)

-- whether a type has this qualified name
abbrev pub is_named : List ℕ → Identifiers → Declared → Bool
is_named qualifier names d =
    not (is_unqualified d) && bytes_eq qualifier (package_of d) && same_name names (names_of d)

-- `java.lang`, `Object` and `String`
abbrev pub java_lang : Identifiers
java_lang = codes "java" ∷ codes "lang" ∷ []

abbrev pub object_name : Identifier
object_name = codes "Object"

abbrev pub string_name : Identifier
string_name = codes "String"

abbrev pub is_java_lang : Identifier → Declared → Bool
is_java_lang name = is_named (with_dots java_lang) (name ∷ [])

-- `java.lang.Object` and `java.lang.String`, without known members, where no document declares them
abbrev pub empty_class : Identifier → OutlineType
empty_class name = record {
  kind = kinds.Class;
  local = false;
  name = name;
  span = record { start = 0; end = 0 };
  modifiers = 0;
  parent = None;
  locals = [];
  extends = [];
  implements = [];
  fields = [];
  methods = [];
  constructors = [];
}

abbrev pub undeclared : ℕ → Identifier → Declared
undeclared id name = record {
  doc = None;
  outline = record { «package» = java_lang; imports = []; types = empty_class name ∷ [] };
  first = id;
  number = 0;
  type = empty_class name;
}

abbrev pub with_java_lang : Identifier → List Declared → List Declared
with_java_lang name ds = cond (list_any (is_java_lang name) ds) ds (ds ++ undeclared (length ds) name ∷ [])

-- all types of an environment, each at the place that its number tells
abbrev pub declared : Env → List Declared
declared env = with_java_lang string_name (with_java_lang object_name (declared_by 0 env))

abbrev pub declared_at : Env → TypeId → Option Declared
declared_at env t = slice_get (declared env) t.0

abbrev pub type_id : ℕ → TypeId
type_id n = record { 0 = n }

abbrev pub id_of : Declared → TypeId
id_of d = type_id (d.first + d.number)

abbrev pub same_id : TypeId → TypeId → Bool
same_id s t = s.0 == t.0

-- all types in order
abbrev pub ids : Env → List TypeId
ids env = map id_of (declared env)

-- The type of this package and these names. Of two declarations of one type the first counts (JLS 7.6).
abbrev pub type_named : Env → List ℕ → Identifiers → Option TypeId
type_named env qualifier names = option_map type_id (position (is_named qualifier names) (declared env))

abbrev pub same_path : DocPath → DocPath → Bool
same_path a b = bytes_eq a.container b.container && bytes_eq a.path b.path

-- the type with this number in the outline of a document
abbrev pub type_at : Env → DocPath → ℕ → Option TypeId
type_at env path number =
    option_map type_id (position (λ d. option_map_or (same_path path) d.doc false && (d.number == number)) (declared env))

-- the declaration that counts; a type without a qualified name is declared once
abbrev pub first_declaration : Env → Declared → TypeId
first_declaration env d = cond (is_unqualified d) (id_of d) (unwrap_or (type_named env (package_of d) (names_of d)) (id_of d))

abbrev pub parent_of : Declared → Option TypeId
parent_of d = option_map (λ n. type_id (d.first + n)) d.type.parent

abbrev pub info_of : Declared → TypeInfo
info_of d = record {
  doc = d.doc;
  number = d.number;
  «package» = package_of d;
  names = names_of d;
  kind = d.type.kind;
  local = d.type.local;
  modifiers = d.type.modifiers;
  parent = parent_of d;
  span = d.type.span;
}

abbrev pub type_info : Env → TypeId → Option TypeInfo
type_info env t = option_map info_of (declared_at env t)

-- the simple name of a type, which is empty for an anonymous class
abbrev pub name_at : Env → TypeId → Option Identifier
name_at env t = option_map (λ d. d.type.name) (declared_at env t)

-- `java.lang.Object` and `java.lang.String`, which every environment has
abbrev pub object : Env → TypeId
object env = unwrap_or (type_named env (with_dots java_lang) (object_name ∷ [])) (type_id 0)

abbrev pub string : Env → TypeId
string env = unwrap_or (type_named env (with_dots java_lang) (string_name ∷ [])) (type_id 0)

-- A package is known where a document's package is it or is in it (JLS 7.1), and so are `java` and `java.lang`.
abbrev pub is_in_package : Identifiers → Identifiers → Bool
is_in_package outer inner = same_name outer (take (length outer) inner)

abbrev pub is_known_package : Env → Identifiers → Bool
is_known_package env [] = false
is_known_package env (x ∷ xs) = is_in_package (x ∷ xs) java_lang || list_any (λ d. is_in_package (x ∷ xs) d.outline.«package») env
