-- What tests of bytes say.
use Rattle.std.proofs.Common.{◌≡◌, ℕ, Bool, true, false, List, refl, sym, ap}
use Rattle.std.specs.Prelude.{◌&&◌}
use Rattle.std.specs.Str.{IsUtf8, is_utf8}
use Rattle.std.proofs.lemmas.Str.{is_utf8-from_IsUtf8, IsUtf8-from_is_utf8}
use Rattle.std.proofs.lemmas.Bool.{false_from_ne_true}
use Rattle.java_tree.specs.Keys.{is_before}
use Rattle.java_tree.specs.Names.{is_source_path}
use Rattle.java_model.specs.IndexFile.Content.{is_path_after}

pub is_text : (bytes : List ℕ) → IsUtf8 bytes → is_utf8 bytes ≡ true
is_text bytes utf8 = is_utf8-from_IsUtf8 bytes utf8

pub is_no_text : (bytes : List ℕ) → ¬ IsUtf8 bytes → is_utf8 bytes ≡ false
is_no_text bytes not_utf8 = false_from_ne_true (is_utf8 bytes) (λ h. not_utf8 (IsUtf8-from_is_utf8 bytes h))

pub path_after : (previous path text : List ℕ) → true ≡ is_before previous path → IsUtf8 path → text ≡ path → is_source_path text ≡ is_path_after previous path
path_after previous path text before utf8 same =
    let b : is_before previous path ≡ true = sym before in
    let u : is_utf8 path ≡ true = is_text path utf8 in
    rw (b, u) (ap is_source_path same)

pub no_path_after : (previous path : List ℕ) → ¬ IsUtf8 path → false ≡ is_path_after previous path
no_path_after previous path not_utf8 =
    let u : is_utf8 path ≡ false = is_no_text path not_utf8 in
    rw u (none (is_before previous path) (is_source_path path))
  where
    none : (a b : Bool) → false ≡ ((a && false) && b)
    none true b = refl
    none false b = refl
