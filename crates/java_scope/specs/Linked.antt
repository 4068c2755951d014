-- What is in scope, each bound with the places of those before it.
use Rattle.std.specs.Prelude.{◌≡◌, ℕ, suc, ◌<◌, ◌≤◌, Bool, true, false, List, Option, Some, None, map, length, nat_eq, slice_get}
use Rattle.std.specs.Option.{option_map_or}
use Rattle.std.specs.Str.{bytes_eq}
use Rattle.java_tree.specs.declared.bound.Bound.{Bound}
use Rattle.java_tree.specs.declared.bound.Bound.TheVariants as bounds
use Rattle.java_model.specs.Names.Lists.{Identifier}
use Rattle.java_model.specs.Names.Environments.{type_id}
use Rattle.java_types.specs.Keys.{member_key}
use Rattle.java_scope.specs.declared.entry.Entry.{Entry}

abbrev pub bound_in : Entry → Bound
bound_in e = e.bound

abbrev pub is_body : Bound → Bool
is_body (bounds.Members t) = true
is_body _ = false

-- whether a bound is no variable
abbrev pub is_around : Bound → Bool
is_around (bounds.Variable n t) = false
is_around _ = true

abbrev pub is_variable : Identifier → Bound → Bool
is_variable name (bounds.Variable n t) = bytes_eq name n
is_variable name _ = false

-- the key of a name, and of a variable by its name
abbrev pub name_key : Identifier → ℕ
name_key = member_key (type_id 0)

abbrev pub key_of : Bound → Option ℕ
key_of (bounds.Variable n t) = Some (name_key n)
key_of _ = None

abbrev pub has_key : ℕ → Bound → Bool
has_key k b = option_map_or (nat_eq k) (key_of b) false

-- the number of bounds up to a place
abbrev pub upto : Option ℕ → ℕ
upto None = 0
upto (Some p) = suc p

-- No bound after a place and before another passes a test.
pub record Skips (test : Bound → Bool) (bs : List Bound) (from : ℕ) (next : Option ℕ) : Type 0 where
  pub within : upto next ≤ from
  pub none : (j : ℕ) (b : Bound) → upto next ≤ j → j < from → slice_get bs j ≡ Some b → test b ≡ false

-- The bound at that place passes it.
abbrev pub Passes : (Bound → Bool) → List Bound → Option ℕ → Type 0
Passes test bs next = (p : ℕ) (b : Bound) → next ≡ Some p → slice_get bs p ≡ Some b → test b ≡ true

-- the last bound before a place that passes a test
pub record IsLast (test : Bound → Bool) (bs : List Bound) (from : ℕ) (next : Option ℕ) : Type 0 where
  pub skips : Skips test bs from next
  pub passes : Passes test bs next

-- the links of the bound at a place
pub record IsLinked (bs : List Bound) (place : ℕ) (e : Entry) : Type 0 where
  pub at : slice_get bs place ≡ Some e.bound
  pub before : (k : ℕ) → has_key k e.bound ≡ true → IsLast (has_key k) bs place e.before
  pub body : Skips is_body bs place e.body
  pub outer : Skips is_around bs place e.outer

-- all bounds are linked, and the last of each key is known
pub record AreLinked (entries : List Entry) (last : ℕ → Option ℕ) : Type 0 where
  pub links : (p : ℕ) (e : Entry) → slice_get entries p ≡ Some e → IsLinked (map bound_in entries) p e
  pub lasts : (k : ℕ) → IsLast (has_key k) (map bound_in entries) (length entries) (last k)
