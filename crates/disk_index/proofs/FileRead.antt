-- What reading a file says of the table of its part.
use Rattle.std.proofs.Common.{◌≡◌, ℕ, zero, suc, ◌-◌, ◌^◌, ◌<◌, Bool, true, List, [], length, take, drop, Result, Ok, Err, refl, sym, ap, subst, ◌∙◌}
use Rattle.std.specs.Str.{bytes_eq}
use Rattle.byteorder.specs.Endian.{big_bytes}
use Rattle.java_tree.specs.declared.index.IndexEntry.{IndexEntry}
use Rattle.java_model.specs.IndexFile.Content.{Posting, rows_of, are_postings_after}
use Rattle.java_model.specs.IndexFile.Spelling.{mark, entry_bytes, IsIndexFile}
use Rattle.java_model.specs.IndexFile.Reading.{Content, mark_at, slice_at, number_at, entries_at, postings_at, content_at}
use Rattle.java_model.proofs.IndexFile.Fields.{IsBytes, ok_is, wide_4, number_takes, slice_takes, ruled_ok}
use Rattle.java_model.proofs.IndexFile.Entries.{entries_take}
use Rattle.java_model.proofs.IndexFile.Laws.{file_of, files_are_read, faults_exclude_files}
use Rattle.java_model.proofs.IndexFile.Files.{file_take}
use Rattle.std.specs.List.{flat_map, list_all}
use Rattle.std.specs.Prelude.{map, replicate, IfOk, IfErr, MatchResult}
use Rattle.java_tree.specs.declared.index.Row.{Row}
use Rattle.disk_index.specs.declared.fault.FileFault.{FileFault}
use Rattle.disk_index.specs.declared.fault.FileFault.TheVariants.{NoMemory}
use Rattle.std.proofs.lemmas.List.{length-map, length-replicate}
use Rattle.std.proofs.Common.{lit<}
use Rattle.disk_index.specs.Reads.{EndsWith, Shows, entry_here, found}
use Rattle.disk_index.specs.Part.{IsRead, IsTable, IsWhole, Part, part_of, content_of, content_or_none}
use Rattle.disk_index.proofs.Ends.{EndsWith-drop, EndsWith-bytes, EndsWith-takes}

whole_ends : (bytes : List ℕ) → EndsWith bytes bytes
whole_ends bytes = ([], refl)

pub start_ends : (bytes begun : List ℕ) (mark : List ℕ) (count : ℕ) (start : List ℕ) → IsBytes bytes → mark_at bytes ≡ Ok (mark, begun) → number_at 4 begun ≡ Ok (count, start) → EndsWith bytes start
start_ends bytes begun front count start fits m n =
    let rule = ruled_ok (λ t. bytes_eq t mark) (slice_at 4) bytes (front, begun) m in
    let t0 = slice_takes 4 bytes (front, begun) fits rule.0 in
    let t1 = number_takes 4 (2 ^ 32) wide_4 begun (count, start) t0.0.rest_fits n in
    EndsWith-takes bytes begun (big_bytes 4 count) start (EndsWith-takes bytes bytes front begun (whole_ends bytes) t0.0) t1.0

pub rest_ends : (bytes start : List ℕ) (count : ℕ) (x : List IndexEntry × List ℕ) → IsBytes bytes → EndsWith bytes start → entries_at [] count start ≡ Ok x → EndsWith bytes x.1
rest_ends bytes start count x fits ends e =
    let t = entries_take [] count start x (EndsWith-bytes bytes start ends fits) e in
    EndsWith-takes bytes start (flat_map entry_bytes x.0) x.1 ends t.0

pub read_is : (bytes front begun : List ℕ) (count : ℕ) (start : List ℕ) (x : List IndexEntry × List ℕ) (postings : List Posting) (places : List ℕ) (rest : List ℕ) → IsBytes bytes
    → mark_at bytes ≡ Ok (front, begun) → number_at 4 begun ≡ Ok (count, start) → entries_at [] count start ≡ Ok x → rest ≡ x.1 → Shows bytes places x.0 → postings_at (length bytes) count rest ≡ Ok postings
    → IsRead bytes places (length bytes - length rest) (record { entries = x.0; postings = postings })
unfolding content_at
read_is bytes front begun count start x postings places rest fits m n e rest-is shown p =
    let ends = start_ends bytes begun front count start fits m n in
    let t = entries_take [] count start x (EndsWith-bytes bytes start ends fits) e in
    let after : EndsWith bytes rest = subst (λ (r : List ℕ). EndsWith bytes r) (sym rest-is) (rest_ends bytes start count x fits ends e) in
    let p' : postings_at (length bytes) count x.1 ≡ Ok postings = subst (λ (r : List ℕ). postings_at (length bytes) count r ≡ Ok postings) rest-is p in
    let is : content_at bytes ≡ Ok (record { entries = x.0; postings = postings }) = rw (m, n, e, p') refl in
    record {
      is = is;
      file = file_of bytes (record { entries = x.0; postings = postings }) fits is;
      small = (file_take bytes (record { entries = x.0; postings = postings }) fits is).0.entries_fit;
      legal = (file_take bytes (record { entries = x.0; postings = postings }) fits is).0.postings_rise;
      shown = shown;
      read = ap (λ (r : List ℕ). postings_at (length bytes) (length x.0) r) (EndsWith-drop bytes rest after) ∙ ap (λ (k : ℕ). postings_at (length bytes) k rest) t.1 ∙ p;
    }

abbrev pub mark_of : List ℕ → List ℕ
mark_of bytes = take 4 bytes

abbrev pub content_from : List IndexEntry → List Posting → Content
content_from entries postings = record { entries = entries; postings = postings }

-- ---- the table of a part

pub nothing_held : (bytes : List ℕ) → bytes ≡ [] → content_of bytes ≡ content_from [] []
unfolding content_at
nothing_held bytes e = ap content_of e

nothing_read : (content : Content) → content_at [] ≡ Ok content → ⊥
unfolding content_at
nothing_read content e = absurd cc

pub empty_table : (bytes places : List ℕ) (live : List Bool) → bytes ≡ [] → places ≡ [] → live ≡ [] → IsTable bytes places 0 live
empty_table bytes places live b p l =
    let none : content_of bytes ≡ content_from [] [] = nothing_held bytes b in
    record {
      long = ap length l ∙ sym (ap (λ (c : Content). length c.entries) none);
      small = rw none (lit< tt);
      legal = rw none refl;
      shown = ap (map (λ place. entry_here (drop place bytes))) p ∙ sym (ap (λ (c : Content). map found c.entries) none);
      read = λ content e. absurd (nothing_read content (sym (ap content_at b) ∙ e));
    }

length-shows : (bytes places : List ℕ) (entries : List IndexEntry) → Shows bytes places entries → length places ≡ length entries
length-shows bytes places entries e = sym (length-map places (λ place. entry_here (drop place bytes))) ∙ ap length e ∙ length-map entries found

pub held_is : (bytes places : List ℕ) (words : ℕ) (content : Content) → IsRead bytes places words content → content_of bytes ≡ content
held_is bytes places words content is = ap content_or_none is.is

pub whole_table : (bytes places : List ℕ) (words : ℕ) (live : List Bool) (content : Content) → IsRead bytes places words content → live ≡ replicate (length places) true → IsTable bytes places words live
whole_table bytes places words live content is l =
    let held : content_of bytes ≡ content = held_is bytes places words content is in
    record {
      long = ap length l ∙ length-replicate (length places) true ∙ length-shows bytes places content.entries is.shown ∙ sym (ap (λ (c : Content). length c.entries) held);
      small = subst (λ (c : Content). length c.entries < 2 ^ 32) (sym held) is.small;
      legal = subst (λ (c : Content). are_postings_after (length c.entries) [] c.postings ≡ true) (sym held) is.legal;
      shown = is.shown ∙ sym (ap (λ (c : Content). map found c.entries) held);
      read = λ other e.
          let same : content ≡ other = ok_is content other (sym is.is ∙ e) in
          subst (λ (c : Content). postings_at (length bytes) (length c.entries) (drop words bytes) ≡ Ok c.postings) same is.read;
    }

all_true : (n : ℕ) → list_all (λ b. b) (replicate n true) ≡ true
all_true zero = refl
all_true (suc n) = all_true n

pub whole_part : (bytes places : List ℕ) (words : ℕ) (live : List Bool) (content : Content) → IsRead bytes places words content → live ≡ replicate (length places) true → IsWhole bytes (part_of bytes live)
whole_part bytes places words live content is l =
    let held : content_of bytes ≡ content = held_is bytes places words content is in
    let table = whole_table bytes places words live content is l in
    record {
      file = subst (λ (c : Content). IsIndexFile bytes c.entries (rows_of c.postings)) (sym held) is.file;
      live = ap (list_all (λ b. b)) l ∙ all_true (length places);
      long = table.long;
    }

-- ---- what a part shows

-- a file that was parsed has no other content
pub only_this : (r : Result Part FileFault) (bytes : List ℕ) (entries : List IndexEntry) (rows : List Row) → IfOk r (IsWhole bytes) → IfErr r (λ e. e ≡ NoMemory) → IsIndexFile bytes entries rows
    → MatchResult r (λ part. (part.entries ≡ entries) × (part.rows ≡ rows)) (λ e. e ≡ NoMemory)
only_this (Ok part) bytes entries rows found fault is = files_are_read bytes part.entries entries part.rows rows found.file is
only_this (Err e) bytes entries rows found fault is = fault

pub no_file : (bytes read : List ℕ) (left : ℕ) (entries : List IndexEntry) (rows : List Row) → read ≡ bytes → content_at read ≡ Err left → IsIndexFile bytes entries rows → ⊥
no_file bytes read left entries rows same failed is =
    faults_exclude_files bytes (length bytes - left) entries rows (left, ap content_at (sym same) ∙ failed, refl) is
