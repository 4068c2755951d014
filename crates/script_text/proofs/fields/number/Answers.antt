use Rattle.std.proofs.Common.{◌≡◌, ◌∙◌, sym, true, arith}
use Rattle.std.specs.Fmt.{decimal}
use Rattle.std.specs.Str.{bytes_eq}
use Rattle.std.proofs.lemmas.Slice.Eq.{bytes_eq-Decides}
use Rattle.script_text.proofs.Scripts.ReadFields.{number_in-decimal, number_in-none}
use Rattle.script_text.proofs.fields.number.Goals as goal
use Rattle.script_text.proofs.fields.number.Goals.{then-n-limit-via-then-n-limit, then-n-limit-via-else-n-limit+then-not-is_spelled}

pub returns-in-None : goal.returns-in-None
returns-in-None c = number_in-none c.args.limit c.args.word.now (λ m le spelled.
    let given = c.in-None.ensures m (omega arith) spelled in absurd cc)

pub returns-then-n-limit : goal.returns-then-n-limit
returns-then-n-limit c = number_in-none c.args.limit c.args.word.now (λ m le spelled.
    let given = c.in-Some.ensures m (omega arith) spelled in
    let same : c.in-Some.n ≡ m = cc in
    let is_spelled : bytes_eq (decimal m) c.args.word.now ≡ true = (bytes_eq-Decides (decimal m) c.args.word.now).1 (sym spelled) in
    elim c.then-n-limit.branch [
      | then-n-limit-via-then-n-limit w ↦ absurd (omega arith)
      | then-n-limit-via-else-n-limit+then-not-is_spelled w ↦ (let told = w.is_spelled.ensures in absurd cc)
    ])

pub returns : goal.returns
returns c =
    number_in-decimal c.args.limit c.in-Some.n c.args.word.now (omega arith) (omega arith) (sym ((bytes_eq-Decides (decimal c.in-Some.n) c.args.word.now).0 (sym c.is_spelled.ensures ∙ c.if-not-is_spelled.false)))
