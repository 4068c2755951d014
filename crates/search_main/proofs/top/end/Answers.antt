use Rattle.std.proofs.Common.{◌≡◌, Result, Err, ap, sym, subst, refl}
use Rattle.std.specs.Prelude.{map, string_bytes}
use Rattle.jx_io.specs.declared.fault.ReadAllFault.{ReadAllFault}
use Rattle.jx_io.specs.declared.fault.ReadAllFault.TheVariants as faults
use Rattle.search_main.specs.declared.status.Status.TheVariants as statuses
use Rattle.script_text.specs.Lines.{IsAccepted}
use Rattle.search_main.specs.Accepted.{AnswersScript}
use Rattle.search_main.specs.Top.{AreBatch}
use Rattle.search_main.proofs.Endings.{finished}
use Rattle.search_main.proofs.top.end.Goals as goal

-- a fault is one of the two
Err-parts : {X : Type 0} (a b : ReadAllFault) → (let r : Result X ReadAllFault = Err a in r ≡ Err b) → a ≡ b
Err-parts a b e = cc

fault_or_long : (e : ReadAllFault) → e ≡ faults.Fault → e ≡ faults.TooLong → ⊥
fault_or_long e failed long = absurd cc

pub returns-then-not-are_batch-clause-ended : goal.returns-then-not-are_batch-clause-ended
returns-then-not-are_batch-clause-ended g c =
    let other : ¬ AreBatch (map string_bytes c.args.words.now) = λ batch. (let t = c.are_batch.ensures.1 batch in absurd cc) in
    finished _ statuses.Words _ _ (record { other = other; unread = refl; reads = refl }, refl) c.finish.ensures.wrote

pub returns-in-Err-Fault-clause-ended : goal.returns-in-Err-Fault-clause-ended
returns-in-Err-Fault-clause-ended g c =
    let batch = c.are_batch.ensures.0 c.if-not-are_batch.false in
    let fault = ap Err c.in-Err-Fault.field-0-is in
    let within = c.in-Err-Fault.ensures.not_too_long (λ long. fault_or_long _ c.in-Err-Fault.field-0-is (Err-parts _ _ long)) in
    finished _ statuses.ReadFault _ _ (record { batch = batch; within = within; reads = c.in-Err-Fault.ensures.cause fault }, refl) c.finish-in-Err-Fault.ensures.wrote

pub returns-in-Err-TooLong-clause-ended : goal.returns-in-Err-TooLong-clause-ended
returns-in-Err-TooLong-clause-ended g c =
    let batch = c.are_batch.ensures.0 c.if-not-are_batch.false in
    let fault = ap Err c.in-Err-TooLong.field-0-is in
    let quiet = c.in-Err-TooLong.ensures.quiet (λ failed. fault_or_long _ (Err-parts _ _ failed) c.in-Err-TooLong.field-0-is) in
    finished _ statuses.TooLong _ _ (record { batch = batch; long = c.in-Err-TooLong.ensures.too_long fault; reads = quiet }, refl) c.finish-in-Err-TooLong.ensures.wrote

pub returns-in-Err-NotBuilt-clause-ended : goal.returns-in-Err-NotBuilt-clause-ended
returns-in-Err-NotBuilt-clause-ended g c =
    let batch = c.are_batch.ensures.0 c.if-not-are_batch.false in
    let quiet = c.in-Ok.ensures.quiet (λ failed. absurd cc) in
    let refused : ¬ IsAccepted c.in-Ok.input.items = λ accepted. c.in-Err-NotBuilt.ensures.not_built (ap Err c.in-Err-NotBuilt.field-0-is) (subst IsAccepted (sym c.deref.ensures.value) accepted) in
    finished _ statuses.Script _ _ (record { input = c.in-Ok.input.items; read = record { batch = batch; taken = c.in-Ok.ensures.taken; ended = c.in-Ok.ensures.ended; within = c.in-Ok.ensures.within; reads = quiet }; refused = refused }, refl) c.finish-in-Err-NotBuilt.ensures.wrote

pub returns-in-Ok-answer-clause-ended : goal.returns-in-Ok-answer-clause-ended
returns-in-Ok-answer-clause-ended g c =
    let batch = c.are_batch.ensures.0 c.if-not-are_batch.false in
    let quiet = c.in-Ok.ensures.quiet (λ failed. absurd cc) in
    let answers = subst (λ input. AnswersScript input (string_bytes c.in-Ok-answer.output)) c.deref.ensures.value c.in-Ok-answer.ensures.answered in
    finished _ statuses.Done _ (string_bytes c.in-Ok-answer.output)
    (record { input = c.in-Ok.input.items; read = record { batch = batch; taken = c.in-Ok.ensures.taken; ended = c.in-Ok.ensures.ended; within = c.in-Ok.ensures.within; reads = quiet }; answers = answers })
    (rw c.as_bytes.ensures.value at c.finish-in-Ok-answer.ensures.wrote)
