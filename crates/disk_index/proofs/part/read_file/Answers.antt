use Rattle.std.proofs.Common.{arith, sym, subst, List, ℕ}
use Rattle.disk_index.specs.Reads.{EndsWith}
use Rattle.disk_index.proofs.Ends.{EndsWith-long}
use Rattle.disk_index.proofs.FileRead.{mark_of, start_ends, rest_ends, read_is, content_from}
use Rattle.disk_index.proofs.part.read_file.Goals as goal

pub entries_at-requires : goal.entries_at-requires
entries_at-requires c =
    start_ends c.args.bytes.now c.in_ok-begun.begun.now (mark_of c.args.bytes.now) c.in_ok-count.count c.in_ok-count.start.now (λ i. omega (arith, c.type_inv.bytes i)) c.in_ok-begun.ensures.value c.in_ok-count.ensures.value

pub overflow_sub-words : goal.overflow_sub-words
overflow_sub-words c =
    let start = start_ends c.args.bytes.now c.in_ok-begun.begun.now (mark_of c.args.bytes.now) c.in_ok-count.count c.in_ok-count.start.now (λ i. omega (arith, c.type_inv.bytes i)) c.in_ok-begun.ensures.value c.in_ok-count.ensures.value in
    let read = c.in_ok-places.ensures in
    let ends = rest_ends c.args.bytes.now c.in_ok-count.start.now c.in_ok-count.count read.0 (λ i. omega (arith, c.type_inv.bytes i)) start read.1 in
    EndsWith-long c.args.bytes.now c.in_ok-places.rest.now (subst (λ (r : List ℕ). EndsWith c.args.bytes.now r) (sym read.2.0) ends)

pub returns : goal.returns
returns c =
    let read = c.in_ok-places.ensures in
    let postings = c.in_ok-postings_at.ensures in
    let is = read_is c.args.bytes.now (mark_of c.args.bytes.now) c.in_ok-begun.begun.now c.in_ok-count.count c.in_ok-count.start.now read.0 postings.0 c.in_ok-places.places.items c.in_ok-places.rest.now
    (λ i. omega (arith, c.type_inv.bytes i)) c.in_ok-begun.ensures.value c.in_ok-count.ensures.value read.1 read.2.0 read.2.1 postings.1 in
    (content_from read.0.0 postings.0, is.is, is)
