use Rattle.std.proofs.Common.{◌≡◌, ◌∙◌, ℕ, List, None, sym, ap, subst}
use Rattle.jx_disk.specs.Calls.{bytes_after, crash_after}
use Rattle.jx_disk.specs.Told.{told, bytes_in}
use Rattle.jx_disk.specs.Crash.{MayInterrupt, left_of}
use Rattle.jx_disk.specs.Memory.{opening_of, calls_of}
use Rattle.jx_disk.specs.declared.record.Call.{Call}
use Rattle.jx_disk.specs.declared.record.FileBytes.{FileBytes}
use Rattle.jx_disk.proofs.Crashes.{may_interrupt}
use Rattle.jx_disk.proofs.memory.MemDisk.crash.Goals as goal

pub returns-clause-possible : goal.returns-clause-possible
returns-clause-possible c =
    let left : (file : ℕ) → bytes_in c.in_ok-files.files.items file ≡ crash_after (calls_of c.args.self.now) c.args.fill c.args.calls (opening_of c.args.self.now) file =
    λ file. c.in_ok-files.ensures file ∙ ap (λ (files : List FileBytes). left_of files c.args.self.now.record c.args.fill c.args.calls file) c.as_slice.ensures.value in
    let same : (file : ℕ) → bytes_after None (told c.in_ok-empty.empty.calls.items c.in_ok-empty.empty.written.items) file (bytes_in c.in_ok-files.files.items file) ≡ crash_after (calls_of c.args.self.now) c.args.fill c.args.calls (opening_of c.args.self.now) file =
    λ file. ap (λ (calls : List Call). bytes_after None (told calls c.in_ok-empty.empty.written.items) file (bytes_in c.in_ok-files.files.items file)) c.in_ok-empty.ensures.empty.0 ∙ left file in
    let is : (λ file. bytes_after None (told c.in_ok-empty.empty.calls.items c.in_ok-empty.empty.written.items) file (bytes_in c.in_ok-files.files.items file)) ≡ crash_after (calls_of c.args.self.now) c.args.fill c.args.calls (opening_of c.args.self.now) =
    λ i. λ file. same file i in
    subst (MayInterrupt (opening_of c.args.self.now) (calls_of c.args.self.now) c.args.calls) (sym is)
    (may_interrupt (calls_of c.args.self.now) c.args.fill c.args.calls (opening_of c.args.self.now))
