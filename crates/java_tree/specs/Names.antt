-- The names of containers, of paths, and of marks and searches.
use Rattle.std.specs.Prelude.{ℕ, Bool, ◌&&◌, ◌||◌, not, nat_lt, nat_le, nat_eq, ◌==◌, List, length, codes}
use Rattle.std.specs.List.{list_all, ends_with}
use Rattle.java_tree.specs.declared.limits.TheConstants.{MAX_NAME}

-- a byte of a character above U+0020 other than U+007F
abbrev pub is_name_byte : ℕ → Bool
is_name_byte b = nat_lt 32 b && not (b == 127)

-- a name has 1 to so many bytes
abbrev pub is_name : List ℕ → Bool
is_name bytes = nat_lt 0 (length bytes) && nat_le (length bytes) MAX_NAME && list_all is_name_byte bytes

-- a container has no `,` and no `*` either
abbrev pub is_container : List ℕ → Bool
is_container bytes = is_name bytes && list_all (λ b. not (b == 44 || b == 42)) bytes

-- a path is the name of a Java source
abbrev pub is_source_path : List ℕ → Bool
is_source_path bytes = is_name bytes && ends_with nat_eq bytes (codes ".java")
