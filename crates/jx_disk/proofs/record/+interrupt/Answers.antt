use Rattle.std.proofs.Common.{◌≡◌, ℕ, ◌-◌, List, length, take, drop, None, sym, ◌∙◌, ap, subst, rules, arith}
use Rattle.jx_disk.specs.Calls.{bytes_after, crash_bytes}
use Rattle.jx_disk.specs.Told.{told, Shows}
use Rattle.jx_disk.proofs.Interrupting.{one_further, one_synced, rest_in_range, rest_written}
use Rattle.jx_disk.proofs.record.+interrupt.Goals as goal

pub interrupt-requires-2 : goal.interrupt-requires-2
interrupt-requires-2 t c =
    let calls = c.args.calls.now in (
      omega arith,
      (
        rest_written calls c.args.written.now c.rest_after-rest.result.now (omega arith) c.rest_after-rest.ensures c.requires.all_written,
        (
          rest_in_range calls (omega arith) c.requires.in_range,
          omega (arith, c.replay-read_len.ensures.same_length, c.replay-left_len.ensures.same_length, c.requires.alike),
        ),
      ),
    )

pub returns-then-is_sync-clause-shows : goal.returns-then-is_sync-clause-shows
returns-then-is_sync-clause-shows t c read left long_read long_left shows_read shows_left =
    let calls = c.args.calls.now in
    let now = bytes_after None (told (take 1 calls) c.args.written.now) c.args.file read in
    let after : length now ≡ c.replay-read_len.result = sym (c.replay-read_len.ensures.len read long_read) in
    let shown : Shows 0 now c.replay-read_len.new.buf = c.replay-read_len.ensures.shows read long_read shows_read in
    let copied : c.copy_from_slice.new.self ≡ c.replay-read_len.new.buf = search rules in
    let is = one_synced c.args.fill c.args.file c.args.written.now read left calls c.args.count (omega arith) (omega arith) (c.if-is_sync.ensures.0 (search rules)) in
    let end = is ∙ ap (λ (l : List ℕ). crash_bytes (told (take (length calls - 1) (drop 1 calls)) l) c.args.fill (c.args.count - 1) c.args.file now now) (sym c.rest_after-rest.ensures) in
    subst (λ (l : List ℕ). Shows 0 l c.interrupt.new.kept) (sym end)
    (c.interrupt.ensures.shows now now after after shown (subst (λ (l : List ℕ). Shows 0 now l) (sym copied) shown))

pub returns-clause-len : goal.returns-clause-len
returns-clause-len t c read left long_read long_left =
    let calls = c.args.calls.now in
    let now = bytes_after None (told (take 1 calls) c.args.written.now) c.args.file read in
    let stays = bytes_after c.args.fill (told (take 1 calls) c.args.written.now) c.args.file left in
    let is = one_further c.args.fill c.args.file c.args.written.now read left calls c.args.count (omega arith) (omega arith) (λ e. cc (c.if-is_sync.ensures.1 e)) in
    let end = is ∙ ap (λ (l : List ℕ). crash_bytes (told (take (length calls - 1) (drop 1 calls)) l) c.args.fill (c.args.count - 1) c.args.file now stays) (sym c.rest_after-rest.ensures) in
    c.interrupt-2.ensures.len now stays (sym (c.replay-read_len.ensures.len read long_read)) (sym (c.replay-left_len.ensures.len left long_left)) ∙ ap length (sym end)

pub returns-clause-shows : goal.returns-clause-shows
returns-clause-shows t c read left long_read long_left shows_read shows_left =
    let calls = c.args.calls.now in
    let now = bytes_after None (told (take 1 calls) c.args.written.now) c.args.file read in
    let stays = bytes_after c.args.fill (told (take 1 calls) c.args.written.now) c.args.file left in
    let is = one_further c.args.fill c.args.file c.args.written.now read left calls c.args.count (omega arith) (omega arith) (λ e. cc (c.if-is_sync.ensures.1 e)) in
    let end = is ∙ ap (λ (l : List ℕ). crash_bytes (told (take (length calls - 1) (drop 1 calls)) l) c.args.fill (c.args.count - 1) c.args.file now stays) (sym c.rest_after-rest.ensures) in
    subst (λ (l : List ℕ). Shows 0 l c.interrupt-2.new.kept) (sym end)
    (c.interrupt-2.ensures.shows now stays (sym (c.replay-read_len.ensures.len read long_read)) (sym (c.replay-left_len.ensures.len left long_left))
    (c.replay-read_len.ensures.shows read long_read shows_read) (c.replay-left_len.ensures.shows left long_left shows_left))
