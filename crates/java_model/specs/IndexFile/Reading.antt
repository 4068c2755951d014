-- The fields of an index file from left to right, each with its rule. A reading gives what it read and
-- the bytes after it, or how many bytes are left at the first field whose rule fails: none where the
-- end cuts a field off.
use Rattle.std.specs.Prelude.{◌≡◌, ℕ, zero, suc, ◌+◌, ◌*◌, ◌-◌, ◌^◌, Bool, true, false, ◌&&◌, nat_lt, nat_le, ◌==◌, if◌then◌else◌, List, [], ◌∷◌, ◌++◌, length, take, drop, Result, Ok, Err}
use Rattle.std.specs.Str.{bytes_eq}
use Rattle.byteorder.specs.Endian.{big_number}
use Rattle.java_tree.specs.declared.index.IndexEntry.{IndexEntry}
use Rattle.java_tree.specs.Keys.{is_before, is_word}
use Rattle.java_model.specs.IndexFile.Content.{Posting, is_path_after}
use Rattle.java_model.specs.IndexFile.Spelling.{mark, next_place, block_count}

infixl 10 ◌>>=◌
abbrev pub ◌>>=◌ : {A B : Type 0} → Result A ℕ → (A → Result B ℕ) → Result B ℕ
(Ok x) >>= f = f x
(Err left) >>= f = Err left

-- a field of so many bytes
abbrev pub slice_at : ℕ → List ℕ → Result (List ℕ × List ℕ) ℕ
slice_at n bytes = if nat_lt (length bytes) n then Err 0 else Ok (take n bytes, drop n bytes)

-- a number of so many bytes
abbrev pub number_at : ℕ → List ℕ → Result (ℕ × List ℕ) ℕ
number_at n bytes = if nat_lt (length bytes) n then Err 0 else Ok (big_number n bytes, drop n bytes)

-- a field with its rule
abbrev pub ruled : {A : Type 0} → (A → Bool) → (List ℕ → Result (A × List ℕ) ℕ) → List ℕ → Result (A × List ℕ) ℕ
ruled rule field bytes = field bytes >>= λ x. if rule x.0 then Ok x else Err (length bytes)

unfoldable pub entry_at : List ℕ → List ℕ → Result (IndexEntry × List ℕ) ℕ
entry_at previous bytes = do
  len ← number_at 2 bytes
  path ← ruled (is_path_after previous) (slice_at len.0) len.1
  stamp ← ruled (λ s. nat_le s (2 ^ 62)) (number_at 8) path.1
  Ok (record { path = path.0; stamp = stamp.0 }, stamp.1)

unfoldable pub entries_at : List ℕ → ℕ → List ℕ → Result (List IndexEntry × List ℕ) ℕ
entries_at previous zero bytes = Ok ([], bytes)
entries_at previous (suc n) bytes = do
  entry ← entry_at previous bytes
  others ← entries_at entry.0.path n entry.1
  Ok (entry.0 ∷ others.0, others.1)

-- a block's first word shares nothing with the previous one, any other no more than that has
abbrev pub may_share : ℕ → List ℕ → ℕ → Bool
may_share zero previous n = n == 0
may_share (suc place) previous n = nat_le n (length previous)

-- the suffix isn't empty, and its first byte is greater than that in its place
abbrev pub is_greater_suffix : List ℕ → List ℕ → Bool
is_greater_suffix rest [] = false
is_greater_suffix [] (y ∷ suffix) = true
is_greater_suffix (x ∷ rest) (y ∷ suffix) = nat_lt x y

-- a block's first word is greater than the previous one
abbrev pub may_follow : ℕ → List ℕ → ℕ → List ℕ → Bool
may_follow zero previous n suffix = is_before previous suffix
may_follow (suc place) previous n suffix = is_greater_suffix (drop n previous) suffix

abbrev pub is_suffix : ℕ → List ℕ → ℕ → List ℕ → Bool
is_suffix place previous n suffix = may_follow place previous n suffix && is_word (take n previous ++ suffix)

unfoldable pub numbers_at : ℕ → ℕ → ℕ → List ℕ → Result (List ℕ × List ℕ) ℕ
numbers_at range low zero bytes = Ok ([], bytes)
numbers_at range low (suc n) bytes = do
  number ← ruled (λ m. nat_le low m && nat_lt m range) (number_at 4) bytes
  others ← numbers_at range (suc number.0) n number.1
  Ok (number.0 ∷ others.0, others.1)

unfoldable pub posting_at : ℕ → ℕ → List ℕ → List ℕ → Result (Posting × List ℕ) ℕ
posting_at range place previous bytes = do
  common ← ruled (may_share place previous) (number_at 4) bytes
  len ← number_at 4 common.1
  suffix ← ruled (is_suffix place previous common.0) (slice_at len.0) len.1
  count ← ruled (nat_le 1) (number_at 4) suffix.1
  numbers ← numbers_at range 0 count.0 count.1
  Ok (record { word = take common.0 previous ++ suffix.0; numbers = numbers.0 }, numbers.1)

-- words, and for each block how many bytes were left at its beginning
pub record Blocks : Type 0 where
  pub postings : List Posting
  pub starts : List ℕ
  pub rest : List ℕ

abbrev pub with_start : ℕ → ℕ → List ℕ → List ℕ
with_start zero left starts = left ∷ starts
with_start (suc place) left starts = starts

unfoldable pub blocks_at : ℕ → ℕ → List ℕ → ℕ → List ℕ → Result Blocks ℕ
blocks_at range place previous zero bytes = Ok (record { postings = []; starts = []; rest = bytes })
blocks_at range place previous (suc n) bytes = do
  posting ← posting_at range place previous bytes
  others ← blocks_at range (next_place place) posting.0.word n posting.1
  Ok (record { postings = posting.0 ∷ others.postings; starts = with_start place (length bytes) others.starts; rest = others.rest })

-- the offset of each block is where it began
unfoldable pub offsets_at : ℕ → List ℕ → List ℕ → Result (List ℕ) ℕ
offsets_at total [] bytes = Ok bytes
offsets_at total (left ∷ starts) bytes = do
  offset ← ruled (λ o. o + left == total) (number_at 4) bytes
  offsets_at total starts offset.1

-- the first four bytes
abbrev pub mark_at : List ℕ → Result (List ℕ × List ℕ) ℕ
mark_at bytes = ruled (λ m. bytes_eq m mark) (slice_at 4) bytes

-- no byte is left
abbrev pub end_at : List ℕ → Result (List ℕ) ℕ
end_at bytes = if nat_lt 0 (length bytes) then Err (length bytes) else Ok bytes

-- what a file holds
pub record Content : Type 0 where
  pub entries : List IndexEntry
  pub postings : List Posting

-- the words, of which all are read before the rules on their blocks' offsets, up to the file's end
unfoldable pub postings_at : ℕ → ℕ → List ℕ → Result (List Posting) ℕ
postings_at total range bytes = do
  count ← number_at 4 bytes
  offsets ← slice_at (4 * block_count count.0) count.1
  blocks ← blocks_at range 0 [] count.0 offsets.1
  checked ← offsets_at total blocks.starts count.1
  ended ← end_at blocks.rest
  Ok blocks.postings

unfoldable pub content_at : List ℕ → Result Content ℕ
content_at bytes = do
  begun ← mark_at bytes
  count ← number_at 4 begun.1
  entries ← entries_at [] count.0 count.1
  postings ← postings_at (length bytes) count.0 entries.1
  Ok (record { entries = entries.0; postings = postings })

-- the file begins as one of the older format
abbrev pub is_old : List ℕ → Bool
is_old bytes = bytes_eq (take 4 bytes) Rattle.java_model.specs.IndexFile.Spelling.old_mark

-- the first fault of a file stands at this place
abbrev pub HasFault : List ℕ → ℕ → Type 0
HasFault bytes at = (left : ℕ) × (content_at bytes ≡ Err left) × (at ≡ length bytes - left)
