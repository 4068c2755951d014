-- A file has one content, and a content one file.
use Rattle.std.proofs.Common.{◌≡◌, ℕ, zero, suc, ◌-◌, ◌≤◌, Bool, true, false, cond, List, [], ◌∷◌, ◌++◌, length, Ok, Err, refl, sym, ap, subst, ◌∙◌, arith, inl, inr, ◌⊎◌}
use Rattle.std.specs.Prelude.{◌&&◌, ◌||◌, nat_lt, nat_le, ◌==◌, map, nat_eq}
use Rattle.std.specs.Str.{bytes_eq}
use Rattle.std.specs.Cmp.Lexicographic.{same_text}
use Rattle.std.proofs.lemmas.Bool.{leb-true}
use Rattle.std.proofs.lemmas.List.Concat.{flat_map-cons}
use Rattle.java_tree.specs.declared.index.IndexEntry.{IndexEntry}
use Rattle.java_tree.specs.declared.index.Row.{Row}
use Rattle.java_tree.specs.Keys.{category_byte, category_at, is_before, is_word, is_key}
use Rattle.java_model.specs.IndexFile.Content.{Posting, row_of, rows_of, are_numbers_from, are_postings_after}
use Rattle.java_model.specs.IndexFile.Spelling.{file_bytes, IsIndexFile}
use Rattle.java_model.specs.IndexFile.Reading.{Content, HasFault, content_at}
use Rattle.java_model.specs.IndexFile.Laws.{FilesAreRead, FilesAreUnique, FilesOrFault, FaultsExcludeFiles}
use Rattle.java_model.proofs.IndexFile.Tests.{and_left, and_right, and_both}
use Rattle.java_model.proofs.IndexFile.Fields.{IsBytes, ok_is}
use Rattle.java_model.proofs.IndexFile.Files.{file_take, file_again}

-- ---- a file has one content

read_as : (bytes : List ℕ) (entries : List IndexEntry) (rows : List Row) (is : IsIndexFile bytes entries rows) → content_at bytes ≡ Ok (record { entries = entries; postings = is.0 })
read_as bytes entries rows is = ap content_at is.3 ∙ file_again entries is.0 is.1

abbrev held : List IndexEntry → List Posting → Content
held entries postings = record { entries = entries; postings = postings }

same_content : (bytes : List ℕ) (entries others : List IndexEntry) (rows more : List Row) (a : IsIndexFile bytes entries rows) (b : IsIndexFile bytes others more)
    → held entries a.0 ≡ held others b.0
same_content bytes entries others rows more a b =
    ok_is (held entries a.0) (held others b.0) (sym (read_as bytes entries rows a) ∙ read_as bytes others more b)

pub files_are_read : FilesAreRead
files_are_read bytes entries others rows more a b =
    let same : held entries a.0 ≡ held others b.0 = same_content bytes entries others rows more a b in
    (ap (λ (c : Content). c.entries) same, a.2 ∙ ap (λ (c : Content). rows_of c.postings) same ∙ sym b.2)

-- what is read is a file
pub file_of : (bytes : List ℕ) (content : Content) → IsBytes bytes → content_at bytes ≡ Ok content → IsIndexFile bytes content.entries (rows_of content.postings)
file_of bytes content fits e =
    let taken = file_take bytes content fits e in
    (content.postings, taken.0, refl, taken.1)

pub files_or_fault : FilesOrFault
files_or_fault bytes fits =
    elim (content_at bytes) as (λ r. content_at bytes ≡ r → ((entries : List IndexEntry) × (rows : List Row) × IsIndexFile bytes entries rows) ⊎ ((at : ℕ) × HasFault bytes at)) [
      | Ok content ↦ λ e. inl (content.entries, rows_of content.postings, file_of bytes content fits e)
      | Err left ↦ λ e. inr (length bytes - left, (left, e, refl))
    ] refl

pub faults_exclude_files : FaultsExcludeFiles
faults_exclude_files bytes at entries rows fault is =
    let read : content_at bytes ≡ Ok (held entries is.0) = read_as bytes entries rows is in
    let failed : content_at bytes ≡ Err fault.0 = fault.1 in
    cc

-- ---- a content has one file

byte_back : (b : ℕ) → 1 ≤ b → b ≤ 9 → category_byte (category_at b) ≡ b
byte_back zero low high = absurd (omega arith)
byte_back (suc zero) low high = refl
byte_back (suc (suc zero)) low high = refl
byte_back (suc (suc (suc zero))) low high = refl
byte_back (suc (suc (suc (suc zero)))) low high = refl
byte_back (suc (suc (suc (suc (suc zero))))) low high = refl
byte_back (suc (suc (suc (suc (suc (suc zero)))))) low high = refl
byte_back (suc (suc (suc (suc (suc (suc (suc zero))))))) low high = refl
byte_back (suc (suc (suc (suc (suc (suc (suc (suc zero)))))))) low high = refl
byte_back (suc (suc (suc (suc (suc (suc (suc (suc (suc zero))))))))) low high = refl
byte_back (suc (suc (suc (suc (suc (suc (suc (suc (suc (suc b)))))))))) low high = absurd (omega arith)

abbrev pub row_word : Row → List ℕ
row_word row = category_byte row.category ∷ row.key

pub row_word-row_of : (word : List ℕ) (n : ℕ) → is_word word ≡ true → row_word (row_of word n) ≡ word
row_word-row_of [] n e = absurd cc
row_word-row_of (b ∷ text) n e =
    let bounds = and_left (nat_le 1 b && nat_le b 9) (is_key (category_at b) text) e in
    ap (λ (c : ℕ). c ∷ text) (byte_back b (leb-true 1 b (and_left (nat_le 1 b) (nat_le b 9) bounds)) (leb-true b 9 (and_right (nat_le 1 b) (nat_le b 9) bounds)))

row_entry : (word : List ℕ) (n : ℕ) → (row_of word n).entry ≡ n
row_entry [] n = refl
row_entry (b ∷ text) n = refl

-- rows with one word are brought together
abbrev pub with_row : List ℕ → ℕ → List Posting → List Posting
with_row word n [] = record { word = word; numbers = n ∷ [] } ∷ []
with_row word n (posting ∷ postings) =
    cond (bytes_eq word posting.word) (record { word = word; numbers = n ∷ posting.numbers } ∷ postings) (record { word = word; numbers = n ∷ [] } ∷ posting ∷ postings)

abbrev pub postings_of : List Row → List Posting
postings_of [] = []
postings_of (row ∷ rows) = with_row (row_word row) row.entry (postings_of rows)

same_bytes : (word : List ℕ) → bytes_eq word word ≡ true
same_bytes [] = refl
same_bytes (b ∷ word) = and_both (nat_eq b b) (bytes_eq word word) (grind arith) (same_bytes word)

not_before_itself : (word : List ℕ) → is_before word word ≡ true → ⊥
not_before_itself [] e = cc
not_before_itself (b ∷ word) e = not_before_itself word (later b (is_before word word) e)
  where
    later : (b : ℕ) (c : Bool) → (nat_lt b b || (b == b && c)) ≡ true → c ≡ true
    later b true e = refl
    later b false e = grind arith

other_word : (word next : List ℕ) → is_before word next ≡ true → bytes_eq word next ≡ false
other_word word next before =
    elim (bytes_eq word next) as (λ b. bytes_eq word next ≡ b → b ≡ false) [
      | true ↦ λ e. absurd (not_before_itself word (subst (λ (w : List ℕ). is_before word w ≡ true) (sym (same_text word next (sym e))) before))
      | false ↦ λ e. refl
    ] refl

-- a word that comes before the others
begins_anew : (range : ℕ) (word : List ℕ) (n : ℕ) (postings : List Posting) → are_postings_after range word postings ≡ true → with_row word n postings ≡ record { word = word; numbers = n ∷ [] } ∷ postings
begins_anew range word n [] legal = refl
begins_anew range word n (posting ∷ postings) legal =
    let before = is_before word posting.word in
    let key = is_word posting.word in
    let some = nat_le 1 (length posting.numbers) in
    let numbers = are_numbers_from range 0 posting.numbers in
    let l4 = and_left (before && key && some && numbers) (are_postings_after range posting.word postings) legal in
    let l1 = and_left before key (and_left (before && key) some (and_left (before && key && some) numbers l4)) in
    rw (other_word word posting.word l1) refl

brought : (range : ℕ) (word : List ℕ) (numbers : List ℕ) (n : ℕ) (postings : List Posting) (rows : List Row) → is_word word ≡ true → are_postings_after range word postings ≡ true → postings_of rows ≡ postings
    → postings_of (map (row_of word) (n ∷ numbers) ++ rows) ≡ record { word = word; numbers = n ∷ numbers } ∷ postings
brought range word [] n postings rows key legal e =
    rw (row_word-row_of word n key, row_entry word n, e) (begins_anew range word n postings legal)
brought range word (m ∷ numbers) n postings rows key legal e =
    rw (row_word-row_of word n key, row_entry word n, brought range word numbers m postings rows key legal e, same_bytes word) refl

pub postings_of-rows_of : (range : ℕ) (previous : List ℕ) (postings : List Posting) → are_postings_after range previous postings ≡ true → postings_of (rows_of postings) ≡ postings
postings_of-rows_of range previous [] legal = refl
postings_of-rows_of range previous (posting ∷ postings) legal =
    let before = is_before previous posting.word in
    let key = is_word posting.word in
    let some = nat_le 1 (length posting.numbers) in
    let numbers = are_numbers_from range 0 posting.numbers in
    let l4 = and_left (before && key && some && numbers) (are_postings_after range posting.word postings) legal in
    let l3 = and_left (before && key && some) numbers l4 in
    let rest = and_right (before && key && some && numbers) (are_postings_after range posting.word postings) legal in
    ap postings_of (flat_map-cons (λ p. map (row_of p.word) p.numbers) posting postings)
    ∙ one range posting postings (rows_of postings) (leb-true 1 (length posting.numbers) (and_right (before && key) some l3)) (and_right before key (and_left (before && key) some l3)) rest (postings_of-rows_of range posting.word postings rest)
  where
    by_numbers : (range : ℕ) (word numbers : List ℕ) (postings : List Posting) (rows : List Row) → 1 ≤ length numbers → is_word word ≡ true → are_postings_after range word postings ≡ true → postings_of rows ≡ postings
        → postings_of (map (row_of word) numbers ++ rows) ≡ record { word = word; numbers = numbers } ∷ postings
    by_numbers range word [] postings rows some key legal e = absurd (omega arith)
    by_numbers range word (n ∷ numbers) postings rows some key legal e = brought range word numbers n postings rows key legal e

    one : (range : ℕ) (posting : Posting) (postings : List Posting) (rows : List Row) → 1 ≤ length posting.numbers → is_word posting.word ≡ true → are_postings_after range posting.word postings ≡ true → postings_of rows ≡ postings
        → postings_of (map (row_of posting.word) posting.numbers ++ rows) ≡ posting ∷ postings
    one range posting postings rows some key legal e = by_numbers range posting.word posting.numbers postings rows some key legal e

pub files_are_unique : FilesAreUnique
files_are_unique bytes others entries rows a b =
    let one : postings_of rows ≡ a.0 = ap postings_of a.2 ∙ postings_of-rows_of (length entries) [] a.0 a.1.postings_rise in
    let two : postings_of rows ≡ b.0 = ap postings_of b.2 ∙ postings_of-rows_of (length entries) [] b.0 b.1.postings_rise in
    a.3 ∙ ap (λ (p : List Posting). file_bytes entries p) (sym one ∙ two) ∙ sym b.3
