use Rattle.std.proofs.Common.{[], ◌∷◌, ◌++◌, List, IsTrue, sym, ◌∙◌, ap, subst, arith}
use Rattle.std.proofs.lemmas.List.{append-nil}
use Rattle.jx_disk.specs.Told.{told, total_written, all_in_range}
use Rattle.jx_disk.specs.declared.record.Call.{Call}
use Rattle.jx_disk.proofs.ToldLaws.{told-push, total_written-push, all_in_range-push}
use Rattle.jx_disk.proofs.record.Record.note.Goals as goal

pub invariant_of-self-clause-counted : goal.invariant_of-self-clause-counted
invariant_of-self-clause-counted c =
    let more = total_written-push c.args.self.now.calls.items c.args.call in
    let was = c.args.self.now.counted in
    let none = c.requires.0 in
    omega (arith, ap total_written c.append_call.ensures.items)

pub invariant_of-self-clause-in_range : goal.invariant_of-self-clause-in_range
invariant_of-self-clause-in_range c =
    subst (λ (l : List Call). IsTrue (all_in_range l)) (sym c.append_call.ensures.items) (all_in_range-push c.args.self.now.calls.items c.args.call c.args.self.now.in_range c.requires.1)

pub returns-clause-noted : goal.returns-clause-noted
returns-clause-noted c =
    ap (λ (l : List Call). told l c.args.self.now.written.items) c.append_call.ensures.items
    ∙ ap (told (c.args.self.now.calls.items ++ c.args.call ∷ [])) (sym (append-nil c.args.self.now.written.items))
    ∙ told-push c.args.self.now.calls.items c.args.self.now.written.items [] c.args.call c.args.self.now.counted
