-- Which keys of the index a pattern asks for: those that a document with a fitting occurrence has.
use Rattle.std.specs.Prelude.{ℕ, Bool, true, false, ◌&&◌, ◌||◌, cond, List, [], ◌∷◌, Option, Some, None, length, slice_get}
use Rattle.std.specs.List.{last_or}
use Rattle.std.specs.Option.{option_map_or}
use Rattle.std.specs.Str.{bytes_eq, byte}
use Rattle.std.specs.Fmt.{decimal}
use Rattle.java_tree.specs.declared.key.Category.{Category}
use Rattle.java_tree.specs.declared.key.Category.TheVariants as categories
use Rattle.java_tree.specs.declared.search.Limit.{Limit}
use Rattle.java_tree.specs.declared.search.Limit.TheVariants as limits
use Rattle.java_tree.specs.declared.search.Rule.{Rule}
use Rattle.java_tree.specs.declared.search.Rule.TheVariants.{Exact}
use Rattle.java_tree.specs.declared.search.What.{What}
use Rattle.java_tree.specs.declared.search.What.TheVariants as whats
use Rattle.java_model.specs.SearchPattern.NameMatch.{name_matches}
use Rattle.java_model.specs.SearchPattern.Parts.{Pattern, has_limit}
use Rattle.java_model.specs.SearchPattern.Texts.{separated}
use Rattle.java_model.specs.Matches.TypePatterns.{fits_qualification}

-- the categories of declarations, and of references
abbrev pub declares : What → Category → Bool
declares whats.Class categories.TypeDecl = true
declares whats.Method categories.MethodDecl = true
declares whats.Constructor categories.ConstructorDecl = true
declares whats.Field categories.FieldDecl = true
declares whats.Package categories.PackageDecl = true
declares _ _ = false

abbrev pub refers : What → Category → Bool
refers whats.Class categories.Ref = true
refers whats.Method categories.MethodRef = true
refers whats.Constructor categories.ConstructorRef = true
refers whats.Field categories.Ref = true
refers whats.Package categories.Ref = true
refers _ _ = false

abbrev pub names_super : What → Category → Bool
names_super whats.Class categories.SuperRef = true
names_super _ _ = false

abbrev pub asks : What → Limit → Category → Bool
asks what limits.Declarations category = declares what category
asks what limits.References category = refers what category
asks what limits.Implementors category = names_super what category
asks what limits.All category = declares what category || refers what category
asks what limits.Reads category = has_limit what limits.Reads && refers what category
asks what limits.Writes category = has_limit what limits.Writes && refers what category

-- the fields of a key, separated by `/`
abbrev pub key_fields : List ℕ → List (List ℕ)
key_fields = separated (byte "/")

abbrev pub field_is : List (List ℕ) → ℕ → (List ℕ → Bool) → Bool
field_is fields at test = option_map_or test (slice_get fields at) false

-- by the count of parameters, where they are given
abbrev pub has_count : Pattern → List ℕ → Bool
has_count p count = option_map_or (λ texts. bytes_eq (decimal (length texts)) count) p.params true

-- A type's key has its qualification. That of a type without a qualified name is empty, of the kind `l`.
abbrev pub key_qualification : List ℕ → List ℕ → Option (List ℕ)
key_qualification qualification kind = cond (bytes_eq kind (byte "l" ∷ [])) None (Some qualification)

abbrev pub has_qualification : Pattern → List (List ℕ) → Bool
has_qualification p (name ∷ qualification ∷ kind ∷ []) =
    fits_qualification p.rule p.case p.qualification (key_qualification qualification kind)
has_qualification p _ = false

-- A reference to a package is admitted by its last identifier, where the rule is Exact and case counts.
abbrev pub admits_package_ref : Rule → Bool → List ℕ → List ℕ → Bool
admits_package_ref Exact true name key = option_map_or (bytes_eq key) (last_or None (separated (byte ".") name)) false
admits_package_ref _ _ name key = true

abbrev pub is_package : What → Bool
is_package whats.Package = true
is_package _ = false

abbrev pub named_by : Pattern → List ℕ → Bool
named_by p key = field_is (key_fields key) 0 (name_matches p.rule p.case p.name)

abbrev pub admits_key : Pattern → Category → List ℕ → Bool
admits_key p categories.PackageDecl key = name_matches p.rule p.case p.name key
admits_key p categories.TypeDecl key = named_by p key && has_qualification p (key_fields key)
admits_key p categories.MethodDecl key = named_by p key && field_is (key_fields key) 1 (has_count p)
admits_key p categories.MethodRef key = named_by p key && field_is (key_fields key) 1 (has_count p)
admits_key p categories.ConstructorDecl key = named_by p key && field_is (key_fields key) 1 (has_count p)
admits_key p categories.ConstructorRef key = named_by p key && field_is (key_fields key) 1 (has_count p)
admits_key p categories.SuperRef key = named_by p key
admits_key p categories.FieldDecl key = named_by p key
admits_key p categories.Ref key = cond (is_package p.what) (admits_package_ref p.rule p.case p.name key) (named_by p key)

abbrev pub admits : Pattern → Category → List ℕ → Bool
admits p category key = asks p.what p.limit category && admits_key p category key
