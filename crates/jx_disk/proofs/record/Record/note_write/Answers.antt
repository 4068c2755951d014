use Rattle.std.proofs.Common.{ℕ, ◌+◌, ◌^◌, ◌<◌, [], ◌∷◌, ◌++◌, List, length, IsTrue, sym, ◌∙◌, ap, subst, arith, length-append}
use Rattle.std.proofs.lemmas.List.{take_all}
use Rattle.std.proofs.lemmas.Bool.Decides.{nat_tests}
use Rattle.jx_disk.specs.Calls.{Written}
use Rattle.jx_disk.specs.Told.{told, total_written, all_in_range}
use Rattle.jx_disk.specs.declared.record.Call.{Call}
use Rattle.jx_disk.specs.declared.record.Call.TheVariants.{Write}
use Rattle.jx_disk.proofs.ToldLaws.{told-push, total_written-push, all_in_range-push}
use Rattle.jx_disk.proofs.record.Record.note_write.Goals as goal

in_range_here : (file at n : ℕ) → at + n < 2 ^ 64 → IsTrue (all_in_range (Write file at n ∷ []))
in_range_here file at n fits = grind (arith, nat_tests)

pub invariant_of-self-clause-counted : goal.invariant_of-self-clause-counted
invariant_of-self-clause-counted c =
    let call = Write c.args.file c.args.at (length c.args.piece.now) in
    let was = c.args.self.now.counted in
    omega (arith, total_written-push c.args.self.now.calls.items call, ap total_written c.append_call.ensures.items, ap length c.append_bytes.ensures.items, length-append c.args.self.now.written.items c.args.piece.now)

pub invariant_of-self-clause-in_range : goal.invariant_of-self-clause-in_range
invariant_of-self-clause-in_range c =
    let call = Write c.args.file c.args.at (length c.args.piece.now) in
    subst (λ (l : List Call). IsTrue (all_in_range l)) (sym c.append_call.ensures.items)
    (all_in_range-push c.args.self.now.calls.items call c.args.self.now.in_range (in_range_here c.args.file c.args.at (length c.args.piece.now) c.requires))

pub returns-clause-noted : goal.returns-clause-noted
returns-clause-noted c =
    let call = Write c.args.file c.args.at (length c.args.piece.now) in
    ap (λ (l : List Call). told l c.append_bytes.new.bytes.items) c.append_call.ensures.items
    ∙ ap (told (c.args.self.now.calls.items ++ call ∷ [])) c.append_bytes.ensures.items
    ∙ told-push c.args.self.now.calls.items c.args.self.now.written.items c.args.piece.now call c.args.self.now.counted
    ∙ ap (λ (l : List ℕ). told c.args.self.now.calls.items c.args.self.now.written.items ++ Written c.args.file c.args.at l ∷ []) (take_all (length c.args.piece.now) c.args.piece.now (omega arith))
