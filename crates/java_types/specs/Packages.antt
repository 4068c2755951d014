-- Packages and those around them, and which packages documents make known (JLS 7.1).
use Rattle.std.specs.Prelude.{◌≡◌, ◌==◌, false, List, [], ◌∷◌, map, length}
use Rattle.std.specs.List.{list_any}
use Rattle.java_model.specs.Names.Lists.{Identifiers, same_name}
use Rattle.java_model.specs.Names.Environments.{Env, is_in_package}

-- a package and those around it, the outermost first
abbrev pub prefixes_of : Identifiers → List Identifiers
prefixes_of [] = []
prefixes_of (x ∷ xs) = (x ∷ []) ∷ map (λ p. x ∷ p) (prefixes_of xs)

-- Exactly those packages are among these that a document's package is or stands in.
abbrev pub AreKnown : Env → List Identifiers → Type 0
AreKnown env names = (name : Identifiers) → (length name == 0) ≡ false
    → list_any (same_name name) names ≡ list_any (λ d. is_in_package name d.outline.«package») env
