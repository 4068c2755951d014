-- The parts of a pattern that speak of types: qualifications, declaring types and parameters.
use Rattle.std.specs.Prelude.{ℕ, suc, Bool, true, false, ◌&&◌, ◌==◌, ◌*◌, cond, List, [], ◌∷◌, ◌++◌, Option, Some, None, drop, reverse}
use Rattle.std.specs.List.{list_any, last_or}
use Rattle.std.specs.Option.{option_map_or}
use Rattle.std.specs.Str.{byte}
use Rattle.java_tree.specs.declared.occurrence.TypeId.{TypeId}
use Rattle.java_tree.specs.declared.search.Rule.{Rule}
use Rattle.java_tree.specs.declared.search.Rule.TheVariants.{Exact, Wild}
use Rattle.java_tree.specs.declared.search.What.TheVariants as whats
use Rattle.java_tree.specs.declared.types.JType.{JType}
use Rattle.java_tree.specs.declared.types.JType.TheVariants as types
use Rattle.java_model.specs.Outlines.{spelled_primitive}
use Rattle.java_model.specs.Names.Lists.{Identifiers, with_dots}
use Rattle.java_model.specs.Names.Environments.{Env, Declared, declared_at, names_of, is_unqualified}
use Rattle.java_model.specs.Names.Types.{element_type}
use Rattle.java_model.specs.SearchPattern.NameMatch.{name_matches, is_exact}
use Rattle.java_model.specs.SearchPattern.Parts.{name_in}

-- The package and the names of the types around a type, with dots (JLS 6.7). A type without a qualified name has none.
abbrev pub enclosing_names : Declared → Identifiers
enclosing_names d = reverse (drop 1 (reverse (names_of d)))

abbrev pub qualification_of : Declared → Option (List ℕ)
qualification_of d = cond (is_unqualified d) None (Some (with_dots (d.outline.«package» ++ enclosing_names d)))

-- what stands after each dot
abbrev pub after_dots : List ℕ → List (List ℕ)
after_dots [] = []
after_dots (b ∷ bs) = cond (b == byte ".") (bs ∷ after_dots bs) (after_dots bs)

-- A qualification is equal to that of a type, or to what stands after a dot of it; `*` and `?` are of the whole.
abbrev pub qualifies : Rule → Bool → List ℕ → List ℕ → Bool
qualifies Wild case given whole = name_matches Wild case given whole
qualifies _ case given whole = list_any (is_exact case given) (whole ∷ after_dots whole)

-- where one is given, it fits no type without a qualified name
abbrev pub fits_qualification : Rule → Bool → Option (List ℕ) → Option (List ℕ) → Bool
fits_qualification rule case None whole = true
fits_qualification rule case (Some given) None = false
fits_qualification rule case (Some given) (Some whole) = qualifies rule case given whole

-- a declared type by its name and its qualification
abbrev pub fits_declared : Rule → Bool → Option (List ℕ) → List ℕ → Declared → Bool
fits_declared rule case qualification name d =
    name_matches rule case name d.type.name && fits_qualification rule case qualification (qualification_of d)

abbrev pub fits_class : Env → Rule → Bool → Option (List ℕ) → List ℕ → TypeId → Bool
fits_class env rule case qualification name t = option_map_or (fits_declared rule case qualification name) (declared_at env t) false

-- A declaring type and a parameter are compared by Wild under Wild, else by Exact.
abbrev pub type_rule : Rule → Rule
type_rule Wild = Wild
type_rule _ = Exact

-- A type that no document declares is compared by its last identifier alone, a primitive type by its name.
abbrev pub fits_element : Env → Rule → Bool → Option (List ℕ) → List ℕ → JType → Bool
fits_element env rule case qualification name (types.Class t) = fits_class env rule case qualification name t
fits_element env rule case qualification name (types.Absent names) =
    option_map_or (name_matches rule case name) (last_or None names) false
fits_element env rule case qualification name (types.Primitive p) =
    name_matches rule case name (spelled_primitive p) && fits_qualification rule case qualification None
fits_element env rule case qualification name _ = false

abbrev pub fits_type : Env → Rule → Bool → List ℕ → JType → Bool
fits_type env rule case text t =
    let parts = name_in whats.Class text in fits_element env (type_rule rule) case parts.0 parts.1 t

-- the `[]` at the end of a parameter, given backwards, and what is left of it
abbrev pub trailing_dims : List ℕ → ℕ
trailing_dims (b ∷ c ∷ bs) = cond (b == byte "]" && (c == byte "[")) (suc (trailing_dims bs)) 0
trailing_dims _ = 0

abbrev pub param_dims : List ℕ → ℕ
param_dims text = trailing_dims (reverse text)

abbrev pub param_element : List ℕ → List ℕ
param_element text = reverse (drop (2 * param_dims text) (reverse text))

-- the dimensions are equal, and the element type fits
abbrev pub dims_of : JType → ℕ
dims_of (types.Array e n) = n
dims_of _ = 0

abbrev pub element_of : JType → JType
element_of (types.Array e n) = element_type e
element_of t = t

abbrev pub fits_param : Env → Rule → Bool → List ℕ → JType → Bool
fits_param env rule case text t =
    (param_dims text == dims_of t) && fits_type env rule case (param_element text) (element_of t)
