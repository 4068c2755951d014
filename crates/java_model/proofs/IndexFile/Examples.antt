-- Files that the prover reads: a file of one document with the type `c`, and changes of it.
use Rattle.std.proofs.Common.{◌≡◌, ℕ, List, [], ◌∷◌, ◌++◌, take, Ok, refl}
use Rattle.std.specs.Prelude.{codes}
use Rattle.std.specs.Str.{is_utf8, chars}
use lib.Utf8.{encode}
use Rattle.java_model.specs.IndexFile.Spelling.{file_bytes}
use Rattle.java_model.specs.IndexFile.Reading.{Content, HasFault, content_at, postings_at, entry_at, entries_at, numbers_at, posting_at, blocks_at, offsets_at}

-- the file up to the path, and from the word on
abbrev head : List ℕ
head = codes "JXF2" ++ 0 ∷ 0 ∷ 0 ∷ 1 ∷ []

abbrev path : List ℕ
path = 0 ∷ 6 ∷ codes "A.java"

abbrev stamp : List ℕ
stamp = 0 ∷ 0 ∷ 0 ∷ 0 ∷ 0 ∷ 0 ∷ 0 ∷ 1 ∷ []

abbrev counts : ℕ → List ℕ
counts offset = 0 ∷ 0 ∷ 0 ∷ 1 ∷ 0 ∷ 0 ∷ 0 ∷ offset ∷ []

abbrev word : List ℕ
word = 0 ∷ 0 ∷ 0 ∷ 0 ∷ 0 ∷ 0 ∷ 0 ∷ 5 ∷ 2 ∷ codes "A//c"

abbrev numbers : List ℕ
numbers = 0 ∷ 0 ∷ 0 ∷ 1 ∷ 0 ∷ 0 ∷ 0 ∷ 0 ∷ []

abbrev file : List ℕ
file = head ++ path ++ stamp ++ counts 32 ++ word ++ numbers

abbrev content : Content
content = record { entries = record { path = codes "A.java"; stamp = 1 } ∷ []; postings = record { word = 2 ∷ codes "A//c"; numbers = 0 ∷ [] } ∷ [] }

is_spelled : file_bytes content.entries content.postings ≡ file
is_spelled = refl

is_read : content_at file ≡ Ok content
unfolding content_at postings_at entry_at entries_at numbers_at posting_at blocks_at offsets_at is_utf8 chars encode
is_read = refl

-- no bytes
no_bytes : HasFault ([]) 0
unfolding content_at postings_at entry_at entries_at numbers_at posting_at blocks_at offsets_at is_utf8 chars encode
no_bytes = (0, refl, refl)

-- two bytes that can't begin a file
two_bytes : HasFault (88 ∷ 88 ∷ []) 2
unfolding content_at postings_at entry_at entries_at numbers_at posting_at blocks_at offsets_at is_utf8 chars encode
two_bytes = (0, refl, refl)

-- another fourth byte
other_mark : HasFault (codes "JXF9" ++ 0 ∷ 0 ∷ 0 ∷ 1 ∷ [] ++ path ++ stamp ++ counts 32 ++ word ++ numbers) 0
unfolding content_at postings_at entry_at entries_at numbers_at posting_at blocks_at offsets_at is_utf8 chars encode
other_mark = (53, refl, refl)

-- a path that isn't a Java source
other_path : HasFault (head ++ 0 ∷ 6 ∷ codes "A.jav!" ++ stamp ++ counts 32 ++ word ++ numbers) 10
unfolding content_at postings_at entry_at entries_at numbers_at posting_at blocks_at offsets_at is_utf8 chars encode
other_path = (43, refl, refl)

-- a stamp of 2 ^ 62 + 1
great_stamp : HasFault (head ++ path ++ 64 ∷ 0 ∷ 0 ∷ 0 ∷ 0 ∷ 0 ∷ 0 ∷ 1 ∷ [] ++ counts 32 ++ word ++ numbers) 16
unfolding content_at postings_at entry_at entries_at numbers_at posting_at blocks_at offsets_at is_utf8 chars encode
great_stamp = (37, refl, refl)

-- a block offset of 33
other_offset : HasFault (head ++ path ++ stamp ++ counts 33 ++ word ++ numbers) 28
unfolding content_at postings_at entry_at entries_at numbers_at posting_at blocks_at offsets_at is_utf8 chars encode
other_offset = (25, refl, refl)

-- a block's first word that shares a byte
first_shares : HasFault (head ++ path ++ stamp ++ counts 32 ++ 0 ∷ 0 ∷ 0 ∷ 1 ∷ 0 ∷ 0 ∷ 0 ∷ 5 ∷ 2 ∷ codes "A//c" ++ numbers) 32
unfolding content_at postings_at entry_at entries_at numbers_at posting_at blocks_at offsets_at is_utf8 chars encode
first_shares = (21, refl, refl)

-- a word that begins with 0
no_category : HasFault (head ++ path ++ stamp ++ counts 32 ++ 0 ∷ 0 ∷ 0 ∷ 0 ∷ 0 ∷ 0 ∷ 0 ∷ 5 ∷ 0 ∷ codes "A//c" ++ numbers) 40
unfolding content_at postings_at entry_at entries_at numbers_at posting_at blocks_at offsets_at is_utf8 chars encode
no_category = (13, refl, refl)

-- a type's key with two fields
two_fields : HasFault (head ++ path ++ stamp ++ counts 32 ++ 0 ∷ 0 ∷ 0 ∷ 0 ∷ 0 ∷ 0 ∷ 0 ∷ 5 ∷ 2 ∷ codes "A-/c" ++ numbers) 40
unfolding content_at postings_at entry_at entries_at numbers_at posting_at blocks_at offsets_at is_utf8 chars encode
two_fields = (13, refl, refl)

-- no entries
no_numbers : HasFault (head ++ path ++ stamp ++ counts 32 ++ word ++ 0 ∷ 0 ∷ 0 ∷ 0 ∷ 0 ∷ 0 ∷ 0 ∷ 0 ∷ []) 45
unfolding content_at postings_at entry_at entries_at numbers_at posting_at blocks_at offsets_at is_utf8 chars encode
no_numbers = (8, refl, refl)

-- an entry past the last one
out_of_range : HasFault (head ++ path ++ stamp ++ counts 32 ++ word ++ 0 ∷ 0 ∷ 0 ∷ 1 ∷ 0 ∷ 0 ∷ 0 ∷ 1 ∷ []) 49
unfolding content_at postings_at entry_at entries_at numbers_at posting_at blocks_at offsets_at is_utf8 chars encode
out_of_range = (4, refl, refl)

-- a word's fault goes before a block's offset
word_before_offset : HasFault (head ++ path ++ stamp ++ counts 33 ++ word ++ 0 ∷ 0 ∷ 0 ∷ 1 ∷ 0 ∷ 0 ∷ 0 ∷ 1 ∷ []) 49
unfolding content_at postings_at entry_at entries_at numbers_at posting_at blocks_at offsets_at is_utf8 chars encode
word_before_offset = (4, refl, refl)

-- the last byte is cut off
cut_off : HasFault (take 52 file) 52
unfolding content_at postings_at entry_at entries_at numbers_at posting_at blocks_at offsets_at is_utf8 chars encode
cut_off = (0, refl, refl)

-- one byte too many
byte_too_many : HasFault (file ++ 0 ∷ []) 53
unfolding content_at postings_at entry_at entries_at numbers_at posting_at blocks_at offsets_at is_utf8 chars encode
byte_too_many = (1, refl, refl)

-- Two words, of which the second shares two bytes with the first.
abbrev two_words : List ℕ → List ℕ
two_words second =
    codes "JXF2" ++ 0 ∷ 0 ∷ 0 ∷ 2 ∷ [] ++ path ++ stamp ++ 0 ∷ 7 ∷ codes "AB.java" ++ stamp
    ++ 0 ∷ 0 ∷ 0 ∷ 2 ∷ 0 ∷ 0 ∷ 0 ∷ 49 ∷ [] ++ word ++ numbers ++ second ++ 0 ∷ 0 ∷ 0 ∷ 1 ∷ 0 ∷ 0 ∷ 0 ∷ 1 ∷ []

abbrev two : Content
two = record {
  entries = record { path = codes "A.java"; stamp = 1 } ∷ record { path = codes "AB.java"; stamp = 1 } ∷ [];
  postings = record { word = 2 ∷ codes "A//c"; numbers = 0 ∷ [] } ∷ record { word = 2 ∷ codes "AB//c"; numbers = 1 ∷ [] } ∷ [];
}

shares_two : file_bytes two.entries two.postings ≡ two_words (0 ∷ 0 ∷ 0 ∷ 2 ∷ 0 ∷ 0 ∷ 0 ∷ 4 ∷ codes "B//c")
shares_two = refl

two_are_read : content_at (two_words (0 ∷ 0 ∷ 0 ∷ 2 ∷ 0 ∷ 0 ∷ 0 ∷ 4 ∷ codes "B//c")) ≡ Ok two
unfolding content_at postings_at entry_at entries_at numbers_at posting_at blocks_at offsets_at is_utf8 chars encode
two_are_read = refl

-- a shared byte that is spelled anew
spelled_anew : HasFault (two_words (0 ∷ 0 ∷ 0 ∷ 1 ∷ 0 ∷ 0 ∷ 0 ∷ 5 ∷ codes "AB//c")) 78
unfolding content_at postings_at entry_at entries_at numbers_at posting_at blocks_at offsets_at is_utf8 chars encode
spelled_anew = (13, refl, refl)
