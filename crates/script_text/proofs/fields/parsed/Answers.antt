use Rattle.std.proofs.Common.{◌∙◌, ap, sym, subst}
use Rattle.std.specs.Result.{result_ok}
use Rattle.std.specs.Str.{IsUtf8}
use Rattle.std.proofs.lemmas.Fmt.{parse-decimal, IsAscii-decimal}
use Rattle.std.proofs.lemmas.Str.{IsUtf8-from_ascii}
use Rattle.script_text.proofs.fields.parsed.Goals as goal

pub returns-in-Ok : goal.returns-in-Ok
returns-in-Ok c = λ n lt spelled.
    let e = parse-decimal 64 n c.in-Ok.text.now _ lt lt (c.in-Ok.ensures.cases.0 ∙ spelled) c.parse.ensures.value.0 in
    c.ok.ensures.value ∙ ap result_ok e

pub returns-in-Err : goal.returns-in-Err
returns-in-Err c = λ n lt spelled.
    absurd (c.in-Err.ensures.cases.0 (subst IsUtf8 (sym spelled) (IsUtf8-from_ascii _ (IsAscii-decimal n lt))))
