-- A file that is read is the one that was spelled, and the other way round.
use Rattle.std.proofs.Common.{◌≡◌, ℕ, ◌+◌, ◌*◌, ◌^◌, ◌<◌, ◌≤◌, true, ltb, List, [], ◌++◌, length, take, Result, Ok, refl, sym, ap, subst, ◌∙◌, arith}
use Rattle.std.specs.Prelude.{nat_lt}
use Rattle.std.specs.List.{flat_map, list_all}
use Rattle.std.specs.Str.{bytes_eq}
use Rattle.std.specs.Cmp.Lexicographic.{same_text}
use Rattle.std.proofs.lemmas.Bool.{ltb-false}
use Rattle.std.proofs.lemmas.List.{length-append, append-nil, nil_from_length, take_at}
use Rattle.byteorder.specs.Endian.{big_bytes}
use Rattle.java_tree.specs.declared.index.IndexEntry.{IndexEntry}
use Rattle.java_model.specs.IndexFile.Content.{Posting, are_postings_after}
use Rattle.java_model.specs.IndexFile.Spelling.{mark, entry_bytes, numbers_bytes, postings_bytes, block_offsets, block_count, blocks_start, file_bytes, fit_fields, HaveFile}
use Rattle.java_model.specs.IndexFile.Reading.{◌>>=◌, number_at, slice_at, mark_at, end_at, entries_at, blocks_at, offsets_at, postings_at, Content, content_at}
use Rattle.java_model.proofs.IndexFile.Fields.{IsBytes, bind_ok, guard_ok, ok_is, wide_4, number_takes, number_again, slice_takes, slice_again, ruled_ok, ruled_again}
use Rattle.java_model.proofs.IndexFile.Entries.{entries_take, entries_again}
use Rattle.java_model.proofs.IndexFile.Postings.{Match, blocks_take, blocks_again}
use Rattle.java_model.proofs.IndexFile.Offsets.{offsets_take, offsets_again, length-numbers_bytes, length-block_offsets}

-- what stands after the entries, if the first block begins at this place
abbrev pub tail_bytes : ℕ → List Posting → List ℕ
tail_bytes start postings = big_bytes 4 (length postings) ++ (numbers_bytes (block_offsets start 0 [] postings) ++ postings_bytes 0 [] postings)

pub record TailFits (range start : ℕ) (postings : List Posting) : Type 0 where
  pub legal : are_postings_after range [] postings ≡ true
  pub count : length postings < 2 ^ 32
  pub fields : fit_fields 0 [] postings ≡ true
  pub offsets : list_all (λ offset. nat_lt offset (2 ^ 32)) (block_offsets start 0 [] postings) ≡ true

-- two lists with equal fronts
front_is : (a b x y : List ℕ) → a ++ x ≡ b ++ y → length a ≡ length b → a ≡ b
front_is a b x y e len =
    let left : take (length a) (a ++ x) ≡ a = take_at a x (length a) refl in
    let right : take (length a) (b ++ y) ≡ b = take_at b y (length a) (sym len) in
    sym left ∙ ap (λ (t : List ℕ). take (length a) t) e ∙ right

pub tail_take : (total range start : ℕ) (bytes : List ℕ) (postings : List Posting) → IsBytes bytes → start + length bytes ≡ total + (4 + 4 * block_count (length postings)) → postings_at total range bytes ≡ Ok postings
    → (bytes ≡ tail_bytes start postings) × TailFits range start postings
unfolding postings_at
tail_take total range start bytes postings fits where_ e =
    let a = bind_ok (number_at 4 bytes) (λ count. slice_at (4 * block_count count.0) count.1 >>= λ offsets. blocks_at range 0 [] count.0 offsets.1 >>= λ blocks. offsets_at total blocks.starts count.1 >>= λ checked. end_at blocks.rest >>= λ ended. Ok blocks.postings) postings e in
    let b = bind_ok (slice_at (4 * block_count a.0.0) a.0.1) (λ offsets. blocks_at range 0 [] a.0.0 offsets.1 >>= λ blocks. offsets_at total blocks.starts a.0.1 >>= λ checked. end_at blocks.rest >>= λ ended. Ok blocks.postings) postings a.2 in
    let c = bind_ok (blocks_at range 0 [] a.0.0 b.0.1) (λ blocks. offsets_at total blocks.starts a.0.1 >>= λ checked. end_at blocks.rest >>= λ ended. Ok blocks.postings) postings b.2 in
    let d = bind_ok (offsets_at total c.0.starts a.0.1) (λ checked. end_at c.0.rest >>= λ ended. Ok c.0.postings) postings c.2 in
    let f = bind_ok (end_at c.0.rest) (λ ended. Ok c.0.postings) postings d.2 in
    let g = guard_ok (ltb 0 (length c.0.rest)) (length c.0.rest) c.0.rest f.0 f.1 in
    let t0 = number_takes 4 (2 ^ 32) wide_4 bytes a.0 fits a.1 in
    let t1 = slice_takes (4 * block_count a.0.0) a.0.1 b.0 t0.0.rest_fits b.1 in
    let t2 = blocks_take range 0 [] a.0.0 b.0.1 c.0 t1.0.rest_fits c.1 in
    let is : c.0.postings ≡ postings = ok_is c.0.postings postings f.2 in
    let count : length c.0.postings ≡ a.0.0 = t2.count in
    let len0 : length bytes ≡ 4 + length a.0.1 = ap length t0.0.parts ∙ length-append (big_bytes 4 a.0.0) a.0.1 in
    let len1 : length a.0.1 ≡ 4 * block_count a.0.0 + length b.0.1 = ap length t1.0.parts ∙ length-append b.0.0 b.0.1 ∙ ap (λ (k : ℕ). k + length b.0.1) t1.1 in
    let same_count : block_count (length postings) ≡ block_count a.0.0 = ap block_count (ap length (sym is) ∙ count) in
    let match : Match total c.0.starts (block_offsets start 0 [] c.0.postings) = t2.offsets start total (omega (arith, where_, len0, len1, same_count)) in
    let t3 = offsets_take total c.0.starts (block_offsets start 0 [] c.0.postings) a.0.1 d.0 t0.0.rest_fits d.1 match in
    let offsets_len : length b.0.0 ≡ length (numbers_bytes (block_offsets start 0 [] c.0.postings)) =
    t1.1 ∙ ap (λ (k : ℕ). 4 * block_count k) (sym count) ∙ ap (λ (k : ℕ). 4 * k) (sym (length-block_offsets start c.0.postings)) ∙ sym (length-numbers_bytes (block_offsets start 0 [] c.0.postings)) in
    let offsets : b.0.0 ≡ numbers_bytes (block_offsets start 0 [] c.0.postings) = front_is b.0.0 (numbers_bytes (block_offsets start 0 [] c.0.postings)) b.0.1 d.0 (sym t1.0.parts ∙ t3.0.parts) offsets_len in
    let nothing : c.0.rest ≡ [] = nil_from_length c.0.rest (omega (arith, ltb-false 0 (length c.0.rest) g.0)) in
    let blocks : b.0.1 ≡ postings_bytes 0 [] c.0.postings = t2.takes.parts ∙ ap (λ (t : List ℕ). postings_bytes 0 [] c.0.postings ++ t) nothing ∙ append-nil (postings_bytes 0 [] c.0.postings) in
    let parts : bytes ≡ tail_bytes start c.0.postings =
    t0.0.parts ∙ ap (λ (t : List ℕ). big_bytes 4 a.0.0 ++ t) (t1.0.parts ∙ ap (λ (t : List ℕ). t ++ b.0.1) offsets ∙ ap (λ (t : List ℕ). numbers_bytes (block_offsets start 0 [] c.0.postings) ++ t) blocks)
    ∙ ap (λ (k : ℕ). big_bytes 4 k ++ (numbers_bytes (block_offsets start 0 [] c.0.postings) ++ postings_bytes 0 [] c.0.postings)) (sym count) in
    subst (λ (p : List Posting). (bytes ≡ tail_bytes start p) × TailFits range start p) is
    (parts, record { legal = t2.legal; count = omega (arith, count, t0.1); fields = t2.fields; offsets = t3.1 })

pub tail_again : (total range start : ℕ) (postings : List Posting) → range ≤ 2 ^ 32 → TailFits range start postings → start + length (postings_bytes 0 [] postings) ≡ total → postings_at total range (tail_bytes start postings) ≡ Ok postings
unfolding postings_at
tail_again total range start postings small fits where_ =
    let offsets = numbers_bytes (block_offsets start 0 [] postings) in
    let blocks = postings_bytes 0 [] postings in
    let read = blocks_again range 0 [] postings [] small fits.legal fits.fields in
    let plain : blocks_at range 0 [] (length postings) blocks ≡ Ok (record { postings = postings; starts = read.starts; rest = [] }) = ap (blocks_at range 0 [] (length postings)) (sym (append-nil blocks)) ∙ read.read in
    let match = read.offsets start total (omega (arith, where_, ap length (append-nil blocks))) in
    let len : 4 * block_count (length postings) ≡ length offsets = ap (λ (k : ℕ). 4 * k) (sym (length-block_offsets start postings)) ∙ sym (length-numbers_bytes (block_offsets start 0 [] postings)) in
    rw (number_again 4 (2 ^ 32) wide_4 (length postings) (offsets ++ blocks) fits.count, slice_again offsets blocks (4 * block_count (length postings)) len, plain, offsets_again total read.starts (block_offsets start 0 [] postings) blocks match fits.offsets) refl

is_mark : (bytes : List ℕ) → bytes_eq bytes mark ≡ true → bytes ≡ mark
is_mark bytes e = same_text bytes mark (sym e)

bind_is : {A B : Type 0} (r : Result A ℕ) (f : A → Result B ℕ) (x : A) → r ≡ Ok x → (r >>= f) ≡ f x
bind_is r f x e = ap (λ q. q >>= f) e

pub file_take : (bytes : List ℕ) (content : Content) → IsBytes bytes → content_at bytes ≡ Ok content → HaveFile content.entries content.postings × (bytes ≡ file_bytes content.entries content.postings)
unfolding content_at
file_take bytes content fits e =
    let a = bind_ok (mark_at bytes) (λ begun. number_at 4 begun.1 >>= λ count. entries_at [] count.0 count.1 >>= λ entries. postings_at (length bytes) count.0 entries.1 >>= λ postings. Ok (record { entries = entries.0; postings = postings })) content e in
    let b = bind_ok (number_at 4 a.0.1) (λ count. entries_at [] count.0 count.1 >>= λ entries. postings_at (length bytes) count.0 entries.1 >>= λ postings. Ok (record { entries = entries.0; postings = postings })) content a.2 in
    let c = bind_ok (entries_at [] b.0.0 b.0.1) (λ entries. postings_at (length bytes) b.0.0 entries.1 >>= λ postings. Ok (record { entries = entries.0; postings = postings })) content b.2 in
    let d = bind_ok (postings_at (length bytes) b.0.0 c.0.1) (λ postings. Ok (record { entries = c.0.0; postings = postings })) content c.2 in
    let begun = ruled_ok (λ m. bytes_eq m mark) (slice_at 4) bytes a.0 a.1 in
    let t0 = slice_takes 4 bytes a.0 fits begun.0 in
    let t1 = number_takes 4 (2 ^ 32) wide_4 a.0.1 b.0 t0.0.rest_fits b.1 in
    let t2 = entries_take [] b.0.0 b.0.1 c.0 t1.0.rest_fits c.1 in
    let begins : a.0.0 ≡ mark = is_mark a.0.0 begun.1 in
    let len0 : length bytes ≡ 4 + length a.0.1 = ap length t0.0.parts ∙ length-append a.0.0 a.0.1 ∙ ap (λ (k : ℕ). k + length a.0.1) t0.1 in
    let len1 : length a.0.1 ≡ 4 + length b.0.1 = ap length t1.0.parts ∙ length-append (big_bytes 4 b.0.0) b.0.1 in
    let len2 : length b.0.1 ≡ length (flat_map entry_bytes c.0.0) + length c.0.1 = ap length t2.0.parts ∙ length-append (flat_map entry_bytes c.0.0) c.0.1 in
    let tail = tail_take (length bytes) b.0.0 (blocks_start c.0.0 d.0) c.0.1 d.0 t2.0.rest_fits (omega (arith, len0, len1, len2)) d.1 in
    let parts : bytes ≡ file_bytes c.0.0 d.0 =
    t0.0.parts ∙ ap (λ (t : List ℕ). t ++ a.0.1) begins ∙ ap (λ (t : List ℕ). mark ++ t)
    (t1.0.parts ∙ ap (λ (k : ℕ). big_bytes 4 k ++ b.0.1) (sym t2.1) ∙ ap (λ (t : List ℕ). big_bytes 4 (length c.0.0) ++ t)
    (t2.0.parts ∙ ap (λ (t : List ℕ). flat_map entry_bytes c.0.0 ++ t) tail.0)) in
    let legal : HaveFile c.0.0 d.0 = record {
      entries_rise = t2.2;
      postings_rise = subst (λ (k : ℕ). are_postings_after k [] d.0 ≡ true) (sym t2.1) tail.1.legal;
      entries_fit = omega (arith, t2.1, t1.1);
      postings_fit = tail.1.count;
      fields_fit = tail.1.fields;
      offsets_fit = tail.1.offsets;
    } in
    subst (λ (y : Content). HaveFile y.entries y.postings × (bytes ≡ file_bytes y.entries y.postings)) (ok_is (record { entries = c.0.0; postings = d.0 }) content d.2) (legal, parts)

pub file_again : (entries : List IndexEntry) (postings : List Posting) → HaveFile entries postings → content_at (file_bytes entries postings) ≡ Ok (record { entries = entries; postings = postings })
unfolding content_at
file_again entries postings fits =
    let start = blocks_start entries postings in
    let tail = tail_bytes start postings in
    let total = length (file_bytes entries postings) in
    let those = flat_map entry_bytes entries in
    let len_tail : length tail ≡ 4 + (4 * block_count (length postings) + length (postings_bytes 0 [] postings)) =
    length-append (big_bytes 4 (length postings)) (numbers_bytes (block_offsets start 0 [] postings) ++ postings_bytes 0 [] postings)
    ∙ omega (arith, length-append (numbers_bytes (block_offsets start 0 [] postings)) (postings_bytes 0 [] postings), length-numbers_bytes (block_offsets start 0 [] postings), length-block_offsets start postings) in
    let len : total ≡ 8 + (length those + length tail) = omega (arith, length-append mark (big_bytes 4 (length entries) ++ (those ++ tail)), length-append (big_bytes 4 (length entries)) (those ++ tail), length-append those tail) in
    let read_tail = tail_again total (length entries) start postings (omega (arith, fits.entries_fit)) (record { legal = fits.postings_rise; count = fits.postings_fit; fields = fits.fields_fit; offsets = fits.offsets_fit }) (omega (arith, len, len_tail)) in
    let count = number_again 4 (2 ^ 32) wide_4 (length entries) (those ++ tail) fits.entries_fit in
    let read_entries = entries_again [] entries tail fits.entries_rise in
    let begun : mark_at (file_bytes entries postings) ≡ Ok (mark, big_bytes 4 (length entries) ++ (those ++ tail)) =
    ruled_again (λ m. bytes_eq m mark) (slice_at 4) (file_bytes entries postings) (mark, big_bytes 4 (length entries) ++ (those ++ tail)) (slice_again mark (big_bytes 4 (length entries) ++ (those ++ tail)) 4 refl) refl in
    bind_is (mark_at (file_bytes entries postings)) (λ begun. number_at 4 begun.1 >>= λ count. entries_at [] count.0 count.1 >>= λ entries. postings_at total count.0 entries.1 >>= λ postings. Ok (record { entries = entries.0; postings = postings })) (mark, big_bytes 4 (length entries) ++ (those ++ tail)) begun
    ∙ bind_is (number_at 4 (big_bytes 4 (length entries) ++ (those ++ tail))) (λ count. entries_at [] count.0 count.1 >>= λ entries. postings_at total count.0 entries.1 >>= λ postings. Ok (record { entries = entries.0; postings = postings })) (length entries, those ++ tail) count
    ∙ bind_is (entries_at [] (length entries) (those ++ tail)) (λ those. postings_at total (length entries) those.1 >>= λ postings. Ok (record { entries = those.0; postings = postings })) (entries, tail) read_entries
    ∙ bind_is (postings_at total (length entries) tail) (λ postings. Ok (record { entries = entries; postings = postings })) postings read_tail
