-- Entries that are read are those that were spelled, and the other way round.
use Rattle.std.proofs.Common.{◌≡◌, ℕ, zero, suc, ◌^◌, ◌<◌, ◌≤◌, true, List, [], ◌∷◌, ◌++◌, length, Ok, refl, sym, ap, subst, ◌∙◌, append_assoc, arith}
use Rattle.std.specs.Prelude.{◌&&◌, nat_lt, nat_le, nat_eq, codes}
use Rattle.std.specs.List.{flat_map, list_all, ends_with}
use Rattle.std.specs.Str.{is_utf8}
use Rattle.std.proofs.lemmas.Bool.{leb-true, ltb-true}
use Rattle.std.proofs.lemmas.List.Concat.{flat_map-cons}
use Rattle.byteorder.specs.Endian.{big_bytes}
use Rattle.java_tree.specs.declared.index.IndexEntry.{IndexEntry}
use Rattle.java_tree.specs.Keys.{is_before}
use Rattle.java_tree.specs.Names.{is_name, is_name_byte, is_source_path}
use Rattle.java_model.specs.IndexFile.Content.{is_path_after, are_entries_after, are_numbers_from}
use Rattle.java_model.specs.IndexFile.Spelling.{entry_bytes, numbers_bytes}
use Rattle.java_model.specs.IndexFile.Reading.{◌>>=◌, number_at, slice_at, ruled, entry_at, entries_at, numbers_at}
use Rattle.java_model.proofs.IndexFile.Tests.{and_left, and_right, and_both}
use Rattle.java_model.proofs.IndexFile.Fields.{IsBytes, bind_ok, ok_is, Takes, Takes-then, wide_2, wide_4, wide_8, number_takes, number_again, slice_takes, slice_again, ruled_ok, ruled_again}

pub path_is_short : (previous path : List ℕ) → is_path_after previous path ≡ true → length path < 2 ^ 16
path_is_short previous path e =
    let source : is_source_path path ≡ true = and_right (is_before previous path && is_utf8 path) (is_source_path path) e in
    let named : is_name path ≡ true = and_left (is_name path) (ends_with nat_eq path (codes ".java")) source in
    let bounds : (nat_lt 0 (length path) && nat_le (length path) 200) ≡ true = and_left (nat_lt 0 (length path) && nat_le (length path) 200) (list_all is_name_byte path) named in
    let short : nat_le (length path) 200 ≡ true = and_right (nat_lt 0 (length path)) (nat_le (length path) 200) bounds in
    omega (arith, leb-true (length path) 200 short)

-- what an entry after a path is
pub record FitsAfter (previous : List ℕ) (entry : IndexEntry) : Type 0 where
  pub path : is_path_after previous entry.path ≡ true
  pub stamp : nat_le entry.stamp (2 ^ 62) ≡ true

pub entry_takes : (previous bytes : List ℕ) (x : IndexEntry × List ℕ) → IsBytes bytes → entry_at previous bytes ≡ Ok x → Takes bytes (entry_bytes x.0) x.1 × FitsAfter previous x.0
unfolding entry_at
entry_takes previous bytes x fits e =
    let a = bind_ok (number_at 2 bytes) (λ len. ruled (is_path_after previous) (slice_at len.0) len.1 >>= λ path. ruled (λ s. nat_le s (2 ^ 62)) (number_at 8) path.1 >>= λ stamp. Ok (record { path = path.0; stamp = stamp.0 }, stamp.1)) x e in
    let b = bind_ok (ruled (is_path_after previous) (slice_at a.0.0) a.0.1) (λ path. ruled (λ s. nat_le s (2 ^ 62)) (number_at 8) path.1 >>= λ stamp. Ok (record { path = path.0; stamp = stamp.0 }, stamp.1)) x a.2 in
    let c = bind_ok (ruled (λ s. nat_le s (2 ^ 62)) (number_at 8) b.0.1) (λ stamp. Ok (record { path = b.0.0; stamp = stamp.0 }, stamp.1)) x b.2 in
    let path = ruled_ok (is_path_after previous) (slice_at a.0.0) a.0.1 b.0 b.1 in
    let stamp = ruled_ok (λ s. nat_le s (2 ^ 62)) (number_at 8) b.0.1 c.0 c.1 in
    let t0 = number_takes 2 (2 ^ 16) wide_2 bytes a.0 fits a.1 in
    let t1 = slice_takes a.0.0 a.0.1 b.0 t0.0.rest_fits path.0 in
    let t2 = number_takes 8 (2 ^ 64) wide_8 b.0.1 c.0 t1.0.rest_fits stamp.0 in
    let rest = Takes-then a.0.1 b.0.0 b.0.1 (big_bytes 8 c.0.0) c.0.1 t1.0 t2.0 in
    let all = Takes-then bytes (big_bytes 2 a.0.0) a.0.1 (b.0.0 ++ big_bytes 8 c.0.0) c.0.1 t0.0 rest in
    let made : IndexEntry × List ℕ = (record { path = b.0.0; stamp = c.0.0 }, c.0.1) in
    let whole : Takes bytes (entry_bytes made.0) made.1 = subst (λ (k : ℕ). Takes bytes (big_bytes 2 k ++ (b.0.0 ++ big_bytes 8 c.0.0)) c.0.1) (sym t1.1) all in
    subst (λ (y : IndexEntry × List ℕ). Takes bytes (entry_bytes y.0) y.1 × FitsAfter previous y.0) (ok_is made x c.2) (whole, record { path = path.1; stamp = stamp.1 })

pub entry_again : (previous : List ℕ) (entry : IndexEntry) (rest : List ℕ) → FitsAfter previous entry → entry_at previous (entry_bytes entry ++ rest) ≡ Ok (entry, rest)
unfolding entry_at
entry_again previous entry rest fits =
    let regrouped : entry_bytes entry ++ rest ≡ big_bytes 2 (length entry.path) ++ (entry.path ++ (big_bytes 8 entry.stamp ++ rest)) =
    append_assoc (big_bytes 2 (length entry.path)) (entry.path ++ big_bytes 8 entry.stamp) rest ∙ ap (λ (t : List ℕ). big_bytes 2 (length entry.path) ++ t) (append_assoc entry.path (big_bytes 8 entry.stamp) rest) in
    let len = number_again 2 (2 ^ 16) wide_2 (length entry.path) (entry.path ++ (big_bytes 8 entry.stamp ++ rest)) (path_is_short previous entry.path fits.path) in
    let path = ruled_again (is_path_after previous) (slice_at (length entry.path)) (entry.path ++ (big_bytes 8 entry.stamp ++ rest)) (entry.path, big_bytes 8 entry.stamp ++ rest) (slice_again entry.path (big_bytes 8 entry.stamp ++ rest) (length entry.path) refl) fits.path in
    let stamp = ruled_again (λ s. nat_le s (2 ^ 62)) (number_at 8) (big_bytes 8 entry.stamp ++ rest) (entry.stamp, rest) (number_again 8 (2 ^ 64) wide_8 entry.stamp rest (omega (arith, leb-true entry.stamp (2 ^ 62) fits.stamp))) fits.stamp in
    ap (entry_at previous) regrouped ∙ rw (len, path, stamp) refl

pub entries_take : (previous : List ℕ) (n : ℕ) (bytes : List ℕ) (x : List IndexEntry × List ℕ) → IsBytes bytes → entries_at previous n bytes ≡ Ok x
    → Takes bytes (flat_map entry_bytes x.0) x.1 × (length x.0 ≡ n) × (are_entries_after previous x.0 ≡ true)
unfolding entries_at
entries_take previous zero bytes x fits e =
    subst (λ (y : List IndexEntry × List ℕ). Takes bytes (flat_map entry_bytes y.0) y.1 × (length y.0 ≡ 0) × (are_entries_after previous y.0 ≡ true)) (ok_is ([], bytes) x e) (record { parts = refl; rest_fits = fits }, refl, refl)
entries_take previous (suc n) bytes x fits e =
    let a = bind_ok (entry_at previous bytes) (λ entry. entries_at entry.0.path n entry.1 >>= λ others. Ok (entry.0 ∷ others.0, others.1)) x e in
    let b = bind_ok (entries_at a.0.0.path n a.0.1) (λ others. Ok (a.0.0 ∷ others.0, others.1)) x a.2 in
    let first = entry_takes previous bytes a.0 fits a.1 in
    let second = entries_take a.0.0.path n a.0.1 b.0 first.0.rest_fits b.1 in
    let both = Takes-then bytes (entry_bytes a.0.0) a.0.1 (flat_map entry_bytes b.0.0) b.0.1 first.0 second.0 in
    let made : List IndexEntry × List ℕ = (a.0.0 ∷ b.0.0, b.0.1) in
    let legal : are_entries_after previous (a.0.0 ∷ b.0.0) ≡ true =
    and_both (is_path_after previous a.0.0.path && nat_le a.0.0.stamp (2 ^ 62)) (are_entries_after a.0.0.path b.0.0) (and_both (is_path_after previous a.0.0.path) (nat_le a.0.0.stamp (2 ^ 62)) first.1.path first.1.stamp) second.2 in
    subst (λ (y : List IndexEntry × List ℕ). Takes bytes (flat_map entry_bytes y.0) y.1 × (length y.0 ≡ suc n) × (are_entries_after previous y.0 ≡ true)) (ok_is made x b.2) (rw flat_map-cons both, ap suc second.1, legal)

pub entries_again : (previous : List ℕ) (entries : List IndexEntry) (rest : List ℕ) → are_entries_after previous entries ≡ true → entries_at previous (length entries) (flat_map entry_bytes entries ++ rest) ≡ Ok (entries, rest)
unfolding entries_at
entries_again previous [] rest legal = refl
entries_again previous (entry ∷ entries) rest legal =
    let head = and_left (is_path_after previous entry.path && nat_le entry.stamp (2 ^ 62)) (are_entries_after entry.path entries) legal in
    let tail = and_right (is_path_after previous entry.path && nat_le entry.stamp (2 ^ 62)) (are_entries_after entry.path entries) legal in
    let fits : FitsAfter previous entry = record { path = and_left (is_path_after previous entry.path) (nat_le entry.stamp (2 ^ 62)) head; stamp = and_right (is_path_after previous entry.path) (nat_le entry.stamp (2 ^ 62)) head } in
    let regrouped : flat_map entry_bytes (entry ∷ entries) ++ rest ≡ entry_bytes entry ++ (flat_map entry_bytes entries ++ rest) =
    ap (λ (t : List ℕ). t ++ rest) (flat_map-cons entry_bytes entry entries) ∙ append_assoc (entry_bytes entry) (flat_map entry_bytes entries) rest in
    ap (entries_at previous (suc (length entries))) regrouped ∙ rw (entry_again previous entry (flat_map entry_bytes entries ++ rest) fits, entries_again entry.path entries rest tail) refl

-- ---- the numbers of a word's entries

pub numbers_take : (range low n : ℕ) (bytes : List ℕ) (x : List ℕ × List ℕ) → IsBytes bytes → numbers_at range low n bytes ≡ Ok x
    → Takes bytes (numbers_bytes x.0) x.1 × (length x.0 ≡ n) × (are_numbers_from range low x.0 ≡ true)
unfolding numbers_at
numbers_take range low zero bytes x fits e =
    subst (λ (y : List ℕ × List ℕ). Takes bytes (numbers_bytes y.0) y.1 × (length y.0 ≡ 0) × (are_numbers_from range low y.0 ≡ true)) (ok_is ([], bytes) x e) (record { parts = refl; rest_fits = fits }, refl, refl)
numbers_take range low (suc n) bytes x fits e =
    let a = bind_ok (ruled (λ m. nat_le low m && nat_lt m range) (number_at 4) bytes) (λ number. numbers_at range (suc number.0) n number.1 >>= λ others. Ok (number.0 ∷ others.0, others.1)) x e in
    let b = bind_ok (numbers_at range (suc a.0.0) n a.0.1) (λ others. Ok (a.0.0 ∷ others.0, others.1)) x a.2 in
    let rule = ruled_ok (λ m. nat_le low m && nat_lt m range) (number_at 4) bytes a.0 a.1 in
    let first = number_takes 4 (2 ^ 32) wide_4 bytes a.0 fits rule.0 in
    let second = numbers_take range (suc a.0.0) n a.0.1 b.0 first.0.rest_fits b.1 in
    let both = Takes-then bytes (big_bytes 4 a.0.0) a.0.1 (numbers_bytes b.0.0) b.0.1 first.0 second.0 in
    let made : List ℕ × List ℕ = (a.0.0 ∷ b.0.0, b.0.1) in
    let legal : are_numbers_from range low (a.0.0 ∷ b.0.0) ≡ true = and_both (nat_le low a.0.0 && nat_lt a.0.0 range) (are_numbers_from range (suc a.0.0) b.0.0) rule.1 second.2 in
    subst (λ (y : List ℕ × List ℕ). Takes bytes (numbers_bytes y.0) y.1 × (length y.0 ≡ suc n) × (are_numbers_from range low y.0 ≡ true)) (ok_is made x b.2) (rw flat_map-cons both, ap suc second.1, legal)

pub numbers_again : (range low : ℕ) (numbers rest : List ℕ) → range ≤ 2 ^ 32 → are_numbers_from range low numbers ≡ true → numbers_at range low (length numbers) (numbers_bytes numbers ++ rest) ≡ Ok (numbers, rest)
unfolding numbers_at
numbers_again range low [] rest small legal = refl
numbers_again range low (number ∷ numbers) rest small legal =
    let head = and_left (nat_le low number && nat_lt number range) (are_numbers_from range (suc number) numbers) legal in
    let tail = and_right (nat_le low number && nat_lt number range) (are_numbers_from range (suc number) numbers) legal in
    let below : number < range = ltb-true number range (and_right (nat_le low number) (nat_lt number range) head) in
    let regrouped : numbers_bytes (number ∷ numbers) ++ rest ≡ big_bytes 4 number ++ (numbers_bytes numbers ++ rest) =
    ap (λ (t : List ℕ). t ++ rest) (flat_map-cons (λ m. big_bytes 4 m) number numbers) ∙ append_assoc (big_bytes 4 number) (numbers_bytes numbers) rest in
    let first = ruled_again (λ m. nat_le low m && nat_lt m range) (number_at 4) (big_bytes 4 number ++ (numbers_bytes numbers ++ rest)) (number, numbers_bytes numbers ++ rest) (number_again 4 (2 ^ 32) wide_4 number (numbers_bytes numbers ++ rest) (omega arith)) head in
    ap (numbers_at range low (suc (length numbers))) regrouped ∙ rw (first, numbers_again range (suc number) numbers rest small tail) refl
