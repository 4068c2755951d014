-- What is assembled is the file, where it is short enough.
use Rattle.std.proofs.Common.{◌≡◌, ℕ, ◌+◌, ◌*◌, ◌^◌, ◌<◌, ◌≤◌, true, List, [], ◌∷◌, ◌++◌, length, slice_index, refl, sym, ap, ◌∙◌, append_assoc, length-append, length-drop, arith}
use Rattle.std.specs.Prelude.{map, nat_lt, ◌&&◌}
use Rattle.std.specs.List.{flat_map}
use Rattle.std.proofs.lemmas.Bool.{lt-ltb}
use Rattle.std.proofs.lemmas.List.Concat.{flat_map-cons}
use Rattle.byteorder.specs.Endian.{big_bytes}
use Rattle.byteorder.specs.Numbers.{length-bytes_high_first}
use Rattle.java_tree.specs.declared.index.IndexEntry.{IndexEntry}
use Rattle.java_tree.specs.declared.index.Row.{Row}
use Rattle.java_model.specs.IndexFile.Content.{Posting, rows_of, are_entries_after, are_postings_after}
use Rattle.java_model.specs.IndexFile.Spelling.{mark, entry_bytes, shared, suffix, next_place, numbers_bytes, posting_bytes, postings_bytes, block_offsets, blocks_start, offsets_of, file_bytes, fit_fields, IsIndexFile}
use Rattle.java_model.proofs.IndexFile.Offsets.{length-numbers_bytes, length-block_offsets}
use Rattle.java_model.proofs.IndexFile.Tests.{and_both}
use Rattle.disk_index.specs.declared.spelled.SpelledWords.{SpelledWords}
use Rattle.disk_index.specs.Written.{Spells}
use Rattle.disk_index.proofs.EncodeLaws.{shared_within, offsets_moved, start_below, all_below}

-- ---- lengths

length_five : (a b c d e : List ℕ) → length (a ++ (b ++ (c ++ (d ++ e)))) ≡ length a + (length b + (length c + (length d + length e)))
length_five a b c d e = simp length-append

length-posting_bytes : (place : ℕ) (previous : List ℕ) (posting : Posting) → length (posting_bytes place previous posting) ≡ 12 + (length (suffix place previous posting.word) + 4 * length posting.numbers)
length-posting_bytes place previous posting =
    let word = posting.word in
    let tail = suffix place previous word in
    omega (
      arith,
      length_five (big_bytes 4 (shared place previous word)) (big_bytes 4 (length tail)) tail (big_bytes 4 (length posting.numbers)) (numbers_bytes posting.numbers),
      length-bytes_high_first 4 (shared place previous word),
      length-bytes_high_first 4 (length tail),
      length-bytes_high_first 4 (length posting.numbers),
      length-numbers_bytes posting.numbers,
    )

entries_long : (entries : List IndexEntry) → length entries ≤ length (flat_map entry_bytes entries)
entries_long [] = omega arith
entries_long (entry ∷ entries) =
    omega (
      arith,
      ap length (flat_map-cons entry_bytes entry entries),
      length-append (entry_bytes entry) (flat_map entry_bytes entries),
      length-append (big_bytes 2 (length entry.path)) (entry.path ++ big_bytes 8 entry.stamp),
      length-bytes_high_first 2 (length entry.path),
      entries_long entries,
    )

postings_long : (place : ℕ) (previous : List ℕ) (postings : List Posting) → length postings ≤ length (postings_bytes place previous postings)
postings_long place previous [] = omega arith
postings_long place previous (posting ∷ postings) =
    omega (arith, length-append (posting_bytes place previous posting) (postings_bytes (next_place place) posting.word postings), length-posting_bytes place previous posting, postings_long (next_place place) posting.word postings)

fields_fit : (place : ℕ) (previous : List ℕ) (postings : List Posting) → length previous + length (postings_bytes place previous postings) < 2 ^ 32 → fit_fields place previous postings ≡ true
fields_fit place previous [] lt = refl
fields_fit place previous (posting ∷ postings) lt =
    let word = posting.word in
    let tail = suffix place previous word in
    let within = shared_within place previous word in
    let all = length-append (posting_bytes place previous posting) (postings_bytes (next_place place) word postings) in
    let one = length-posting_bytes place previous posting in
    let cut = length-drop (shared place previous word) word in
    let a : shared place previous word < 2 ^ 32 = omega (arith, within.0, lt) in
    let b : length tail < 2 ^ 32 = omega (arith, all, one, lt) in
    let c : length posting.numbers < 2 ^ 32 = omega (arith, all, one, lt) in
    let d : length word + length (postings_bytes (next_place place) word postings) < 2 ^ 32 = omega (arith, all, one, cut, within.0, within.1, lt) in
    and_both (nat_lt (shared place previous word) (2 ^ 32) && nat_lt (length tail) (2 ^ 32) && nat_lt (length posting.numbers) (2 ^ 32)) (fit_fields (next_place place) word postings)
    (and_both (nat_lt (shared place previous word) (2 ^ 32) && nat_lt (length tail) (2 ^ 32)) (nat_lt (length posting.numbers) (2 ^ 32))
    (and_both (nat_lt (shared place previous word) (2 ^ 32)) (nat_lt (length tail) (2 ^ 32)) (lt-ltb (shared place previous word) (2 ^ 32) a) (lt-ltb (length tail) (2 ^ 32) b))
    (lt-ltb (length posting.numbers) (2 ^ 32) c))
    (fields_fit (next_place place) word postings d)

-- ---- the file

-- where the first block begins, by what was spelled
abbrev pub first_block : List ℕ → SpelledWords → ℕ
first_block front words = 12 + (length front + 4 * length words.starts.items)

first_is : (entries : List IndexEntry) (postings : List Posting) (words : SpelledWords) (front : List ℕ) → front ≡ flat_map entry_bytes entries → Spells words postings → first_block front words ≡ blocks_start entries postings
first_is entries postings words front front-is spelled =
    omega (arith, ap length front-is, ap length spelled.starts, length-block_offsets 0 postings)

offsets_are : (entries : List IndexEntry) (postings : List Posting) (words : SpelledWords) (front : List ℕ) → front ≡ flat_map entry_bytes entries → Spells words postings
    → map (λ start. first_block front words + start) words.starts.items ≡ offsets_of entries postings
offsets_are entries postings words front front-is spelled =
    let none : blocks_start entries postings + 0 ≡ blocks_start entries postings = omega arith in
    (λ i. map (λ start. first_is entries postings words front front-is spelled i + start) (spelled.starts i))
    ∙ sym (offsets_moved (blocks_start entries postings) postings 0 0 []) ∙ ap (λ (n : ℕ). block_offsets n 0 [] postings) none

abbrev pub parts : ℕ → List ℕ → SpelledWords → List ℕ
parts count front words = mark ++ big_bytes 4 count ++ front ++ big_bytes 4 words.count ++ numbers_bytes (map (λ start. first_block front words + start) words.starts.items) ++ words.bytes.items

regrouped : (a b c d e f : List ℕ) → a ++ b ++ c ++ d ++ e ++ f ≡ a ++ (b ++ (c ++ (d ++ (e ++ f))))
regrouped a b c d e f = simp append_assoc

file_is : (entries : List IndexEntry) (postings : List Posting) (words : SpelledWords) (front : List ℕ) → front ≡ flat_map entry_bytes entries → Spells words postings → parts (length entries) front words ≡ file_bytes entries postings
file_is entries postings words front front-is spelled =
    regrouped mark (big_bytes 4 (length entries)) front (big_bytes 4 words.count) (numbers_bytes (map (λ start. first_block front words + start) words.starts.items)) words.bytes.items
    ∙ (λ i. mark ++ (big_bytes 4 (length entries) ++ (front-is i ++ (big_bytes 4 (spelled.count i) ++ (numbers_bytes (offsets_are entries postings words front front-is spelled i) ++ spelled.bytes i)))))

length_six : (a b c d e f : List ℕ) → length (a ++ (b ++ (c ++ (d ++ (e ++ f))))) ≡ length a + (length b + (length c + (length d + (length e + length f))))
length_six a b c d e f = simp length-append

pub file_long : (entries : List IndexEntry) (postings : List Posting) (words : SpelledWords) (front : List ℕ) → front ≡ flat_map entry_bytes entries → Spells words postings
    → first_block front words + length words.bytes.items ≡ length (file_bytes entries postings)
file_long entries postings words front front-is spelled =
    let offsets = offsets_of entries postings in
    omega (
      arith,
      first_is entries postings words front front-is spelled,
      ap length spelled.bytes,
      length_six mark (big_bytes 4 (length entries)) (flat_map entry_bytes entries) (big_bytes 4 (length postings)) (numbers_bytes offsets) (postings_bytes 0 [] postings),
      length-bytes_high_first 4 (length entries),
      length-bytes_high_first 4 (length postings),
      length-numbers_bytes offsets,
      length-block_offsets (blocks_start entries postings) postings,
    )

-- a file that is short enough
pub is_file : (entries : List IndexEntry) (postings : List Posting) (rows : List Row) (words : SpelledWords) (front bytes : List ℕ) → are_entries_after [] entries ≡ true → are_postings_after (length entries) [] postings ≡ true → rows ≡ rows_of postings
    → front ≡ flat_map entry_bytes entries → Spells words postings → first_block front words + length words.bytes.items ≤ 67108864 → bytes ≡ parts (length entries) front words → IsIndexFile bytes entries rows
is_file entries postings rows words front bytes rising legal rows-are front-is spelled short bytes-are = (
  postings,
  record {
    entries_rise = rising;
    postings_rise = legal;
    entries_fit = omega (arith, entries_long entries, ap length front-is, short);
    postings_fit = omega (arith, postings_long 0 [] postings, ap length spelled.bytes, short);
    fields_fit = fields_fit 0 [] postings (omega (arith, ap length spelled.bytes, short));
    offsets_fit = all_below (offsets_of entries postings) (λ k lt. omega (arith, start_below postings (blocks_start entries postings) 0 [] k lt, first_is entries postings words front front-is spelled, ap length spelled.bytes, short));
  },
  rows-are,
  bytes-are ∙ file_is entries postings words front front-is spelled,
)

pub is_short : (entries : List IndexEntry) (postings : List Posting) (words : SpelledWords) (front bytes : List ℕ) → front ≡ flat_map entry_bytes entries → Spells words postings
    → bytes ≡ parts (length entries) front words → length bytes ≡ first_block front words + length words.bytes.items
is_short entries postings words front bytes front-is spelled bytes-are =
    ap length (bytes-are ∙ file_is entries postings words front front-is spelled) ∙ sym (file_long entries postings words front front-is spelled)

-- no offset passes a short file
pub starts_small : (postings : List Posting) (words : SpelledWords) (front : List ℕ) → Spells words postings → first_block front words + length words.bytes.items ≤ 67108864 → (k : ℕ) → k < length words.starts.items → first_block front words + slice_index words.starts.items k < 2 ^ 64
starts_small postings words front spelled short k lt =
    let at : k < length (block_offsets 0 0 [] postings) = omega (arith, ap length spelled.starts, lt) in
    omega (arith, start_below postings 0 0 [] k at, ap (λ (s : List ℕ). slice_index s k) spelled.starts, ap length spelled.bytes, short)

pub total_is : (total : ℕ) (words : SpelledWords) (front a b c : List ℕ) → total ≡ 12 + (length a + 4 * length b) + length c → a ≡ front → b ≡ words.starts.items → c ≡ words.bytes.items → total ≡ first_block front words + length words.bytes.items
total_is total words front a b c e a-is b-is c-is = omega (arith, e, ap length a-is, ap length b-is, ap length c-is)
