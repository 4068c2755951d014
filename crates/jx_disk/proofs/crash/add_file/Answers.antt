use Rattle.std.proofs.Common.{◌≡◌, ◌∙◌, List, true, sym, subst, ap}
use Rattle.jx_disk.specs.Crash.{is_listed, left_of, AreLeft, Lists}
use Rattle.jx_disk.specs.declared.record.FileBytes.{FileBytes}
use Rattle.jx_disk.proofs.Crashes.{left_more, lists_more, lists_last}
use Rattle.jx_disk.proofs.crash.add_file.Goals as goal

pub returns-clause-left : goal.returns-clause-left
returns-clause-left c =
    subst (AreLeft (left_of c.args.opening.now c.args.made.now c.args.fill c.args.count)) (sym c.in_ok-push.ensures.items)
    (left_more (left_of c.args.opening.now c.args.made.now c.args.fill c.args.count) c.args.files.now.items (record { number = c.args.file; bytes = c.in_ok-bytes.bytes })
    (ap (λ (l : List FileBytes). is_listed l c.args.file) (sym c.as_slice.ensures.value) ∙ sym c.is_listed.ensures ∙ c.if-is_listed.false) c.in_ok-bytes.ensures c.requires)

pub returns-clause-kept : goal.returns-clause-kept
returns-clause-kept c =
    subst (Lists (is_listed c.args.files.now.items)) (sym c.in_ok-push.ensures.items)
    (lists_more c.args.files.now.items (record { number = c.args.file; bytes = c.in_ok-bytes.bytes }))

pub returns-clause-listed : goal.returns-clause-listed
returns-clause-listed c =
    subst (λ (l : List FileBytes). is_listed l c.args.file ≡ true) (sym c.in_ok-push.ensures.items)
    (lists_last c.args.files.now.items (record { number = c.args.file; bytes = c.in_ok-bytes.bytes }))
