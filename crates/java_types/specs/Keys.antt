-- The keys by which types are looked up: hashes of names.
use Rattle.std.specs.Prelude.{ℕ, ◌+◌, ◌*◌, ◌%◌, ◌^◌, Bool, false, not, ◌&&◌, ◌||◌, cond, List, [], Option, Some, None, fold, option_map}
use Rattle.std.specs.Option.{option_map_or}
use Rattle.std.specs.Str.{bytes_eq}
use Rattle.java_tree.specs.declared.occurrence.TypeId.{TypeId}
use Rattle.java_model.specs.Names.Lists.{Identifier, Identifiers}
use Rattle.java_model.specs.Names.Environments.{is_anonymous, same_id}
use Rattle.java_types.specs.declared.keys.TheConstants.{HASH_FACTOR}
use Rattle.java_types.specs.declared.entry.Entry.{Entry}

abbrev pub hash_step : ℕ → ℕ → ℕ
hash_step h byte = (h * HASH_FACTOR % 2 ^ 64 + byte) % 2 ^ 64

-- the hash of bytes, after those hashed before
abbrev pub hashed : ℕ → List ℕ → ℕ
hashed before bytes = fold hash_step before bytes

abbrev pub name_key : List ℕ → Identifiers → ℕ
name_key qualifier names = fold hashed (hashed 0 qualifier) names

abbrev pub member_key : TypeId → Identifier → ℕ
member_key t name = hashed t.0 name

-- A type without a qualified name has no key.
abbrev pub entry_name_key : Entry → Option ℕ
entry_name_key e = cond e.unqualified None (Some (name_key e.info.«package» e.info.names))

-- whether a type is a class declared in a block, which is no member (JLS 8.5, 14.3)
abbrev pub entry_is_local : Entry → Bool
entry_is_local e = e.info.local || is_anonymous e.info.kind

abbrev pub entry_member_key : Entry → Option ℕ
entry_member_key e = cond (entry_is_local e) None (option_map (λ t. member_key t e.name) e.info.parent)

-- whether a type is a member type of this one with this name (JLS 8.5)
abbrev pub entry_is_member : TypeId → Identifier → Entry → Bool
entry_is_member t name e = not (entry_is_local e) && bytes_eq name e.name && option_map_or (same_id t) e.info.parent false

-- a package's name by itself
abbrev pub prefix_key : Identifiers → Option ℕ
prefix_key name = Some (name_key [] name)
