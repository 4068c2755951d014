-- Outlines in a few words, for examples.
use Rattle.std.proofs.Common.{ℕ, true, false, List, [], ◌∷◌, ◌++◌, Some, codes, map}
use Rattle.java_tree.specs.declared.occurrence.FieldId.{FieldId}
use Rattle.java_tree.specs.declared.occurrence.MethodId.{MethodId}
use Rattle.java_tree.specs.declared.occurrence.TypeId.{TypeId}
use Rattle.java_tree.specs.declared.outline.ImportName.{ImportName}
use Rattle.java_tree.specs.declared.outline.OutlineType.{OutlineType}
use Rattle.java_tree.specs.declared.outline.SpelledType.{SpelledType}
use Rattle.java_tree.specs.declared.outline.TypeKind.TheVariants as kinds
use Rattle.java_tree.specs.declared.token.Span.{Span}
use Rattle.java_model.specs.SearchPattern.Texts.{separated}
use Rattle.java_model.specs.Names.Lists.{Identifiers}
use Rattle.java_model.specs.Names.Environments.{EnvDocument, empty_class, type_id}

abbrev pub no_span : Span
no_span = record { start = 0; end = 0 }

-- a name by its dots
abbrev pub named : List ℕ → Identifiers
named = separated 46

-- types
abbrev pub class : List ℕ → OutlineType
class = empty_class

abbrev pub interface : List ℕ → OutlineType
interface name = record (empty_class name) { kind = kinds.Interface }

abbrev pub anonymous : List ℕ → OutlineType
anonymous created = record (empty_class []) { kind = kinds.Anonymous; extends = named created ∷ [] }

abbrev pub extends : List ℕ → OutlineType → OutlineType
extends name t = record t { extends = t.extends ++ named name ∷ [] }

abbrev pub implements : List ℕ → OutlineType → OutlineType
implements name t = record t { implements = t.implements ++ named name ∷ [] }

abbrev pub within : ℕ → OutlineType → OutlineType
within number t = record t { parent = Some number }

abbrev pub local : List ℕ → OutlineType → OutlineType
local locals t = record t { local = true; locals = locals }

abbrev pub with_modifiers : ℕ → OutlineType → OutlineType
with_modifiers bits t = record t { modifiers = bits }

-- members
abbrev pub typed : List ℕ → SpelledType
typed name = record { name = named name; dims = 0 }

abbrev pub field : ℕ → List ℕ → List ℕ → OutlineType → OutlineType
field bits of name t = record t {
  fields = t.fields ++ (record { name = name; of = typed of; modifiers = bits; span = no_span }) ∷ [];
}

abbrev pub method : ℕ → List ℕ → List (List ℕ) → OutlineType → OutlineType
method bits name params t = record t {
  methods = t.methods ++ (record { name = name; params = map typed params; result = typed (codes "void"); modifiers = bits; span = no_span }) ∷ [];
}

abbrev pub constructor : ℕ → List (List ℕ) → OutlineType → OutlineType
constructor bits params t = record t {
  constructors =
      t.constructors ++ (record { name = t.name; params = map typed params; result = typed (codes "void"); modifiers = bits; span = no_span }) ∷ [];
}

-- documents
abbrev pub import : List ℕ → ImportName
import name = record { name = named name; star = false }

abbrev pub import_all : List ℕ → ImportName
import_all name = record { name = named name; star = true }

abbrev pub document : List ℕ → Identifiers → List ImportName → List OutlineType → EnvDocument
document path «package» imports types = record {
  path = record { container = codes "src"; path = path };
  outline = record { «package» = «package»; imports = imports; types = types };
}

abbrev pub the_type : ℕ → TypeId
the_type = type_id

abbrev pub the_field : ℕ → ℕ → FieldId
the_field t place = record { of = type_id t; place = place }

abbrev pub the_method : ℕ → ℕ → MethodId
the_method t place = record { of = type_id t; place = place }
