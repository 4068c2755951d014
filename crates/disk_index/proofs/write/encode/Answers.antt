use Rattle.std.proofs.Common.{◌≡◌, ◌++◌, ◌≤◌, ◌+◌, ◌∙◌, ℕ, List, length, sym, ap, arith}
use Rattle.std.specs.List.{flat_map}
use Rattle.java_model.specs.IndexFile.Spelling.{entry_bytes}
use Rattle.disk_index.proofs.FileWritten.{first_block, total_is, file_long, is_file, is_short, starts_small}
use Rattle.disk_index.proofs.write.encode.Goals as goal

pub returns-then-length-gt-MAX_IMAGE-clause-fault : goal.returns-then-length-gt-MAX_IMAGE-clause-fault
returns-then-length-gt-MAX_IMAGE-clause-fault c = (
  c.if-length-gt-MAX_IMAGE.true,
  λ postings legal rows-are.
      let words = c.in_ok-words.words in
      let front = c.put_entries.new.out.items in
      total_is c.in-Some.length words front c.as_slice.result.now c.as_slice-2.result.now c.as_slice-3.result.now c.in-Some.ensures c.as_slice.ensures.value c.as_slice-2.ensures.value c.as_slice-3.ensures.value
      ∙ file_long c.args.entries.now postings words front (c.in_ok-put_entries.ensures ∙ ap (λ (t : List ℕ). t ++ flat_map entry_bytes c.args.entries.now) c.new-front.ensures.items) (c.in_ok-words.ensures (length c.args.entries.now) postings legal rows-are),
)

pub assembled-requires-clause-starts : goal.assembled-requires-clause-starts
assembled-requires-clause-starts c =
    let words = c.in_ok-words.words in
    let front = c.as_slice-4.result.now in
    let same : c.as_slice.result.now ≡ front = c.as_slice.ensures.value ∙ sym c.as_slice-4.ensures.value in
    let total = total_is c.in-Some.length words front c.as_slice.result.now c.as_slice-2.result.now c.as_slice-3.result.now c.in-Some.ensures same c.as_slice-2.ensures.value c.as_slice-3.ensures.value in
    let short : first_block front words + length words.bytes.items ≤ 67108864 = omega (arith, total, c.if-length-gt-MAX_IMAGE.false) in
    starts_small c.requires.0 words front (c.in_ok-words.ensures (length c.args.entries.now) c.requires.0 c.requires.2 c.requires.3) short

pub returns-clause-file : goal.returns-clause-file
returns-clause-file c =
    let words = c.in_ok-words.words in
    let front = c.as_slice-4.result.now in
    let same : c.as_slice.result.now ≡ front = c.as_slice.ensures.value ∙ sym c.as_slice-4.ensures.value in
    let total = total_is c.in-Some.length words front c.as_slice.result.now c.as_slice-2.result.now c.as_slice-3.result.now c.in-Some.ensures same c.as_slice-2.ensures.value c.as_slice-3.ensures.value in
    let short : first_block front words + length words.bytes.items ≤ 67108864 = omega (arith, total, c.if-length-gt-MAX_IMAGE.false) in
    is_file c.args.entries.now c.requires.0 c.args.rows.now words front c.in_ok-bytes.bytes.items c.requires.1 c.requires.2 c.requires.3
    (c.as_slice-4.ensures.value ∙ c.in_ok-put_entries.ensures ∙ ap (λ (t : List ℕ). t ++ flat_map entry_bytes c.args.entries.now) c.new-front.ensures.items)
    (c.in_ok-words.ensures (length c.args.entries.now) c.requires.0 c.requires.2 c.requires.3) short c.in_ok-bytes.ensures

pub returns-clause-short : goal.returns-clause-short
returns-clause-short c =
    let words = c.in_ok-words.words in
    let front = c.as_slice-4.result.now in
    let same : c.as_slice.result.now ≡ front = c.as_slice.ensures.value ∙ sym c.as_slice-4.ensures.value in
    let total = total_is c.in-Some.length words front c.as_slice.result.now c.as_slice-2.result.now c.as_slice-3.result.now c.in-Some.ensures same c.as_slice-2.ensures.value c.as_slice-3.ensures.value in
    let long = is_short c.args.entries.now c.requires.0 words front c.in_ok-bytes.bytes.items
    (c.as_slice-4.ensures.value ∙ c.in_ok-put_entries.ensures ∙ ap (λ (t : List ℕ). t ++ flat_map entry_bytes c.args.entries.now) c.new-front.ensures.items)
    (c.in_ok-words.ensures (length c.args.entries.now) c.requires.0 c.requires.2 c.requires.3) c.in_ok-bytes.ensures in
    omega (arith, total, long, c.if-length-gt-MAX_IMAGE.false)
