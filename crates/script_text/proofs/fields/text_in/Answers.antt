use Rattle.std.proofs.Common.{◌∙◌, ap, sym}
use Rattle.std.specs.Prelude.{Some}
use Rattle.script_text.proofs.Scripts.ReadFields.{text_in-utf8, text_in-none}
use Rattle.script_text.proofs.fields.text_in.Goals as goal

pub returns-in_ok-from_str-in-Ok : goal.returns-in_ok-from_str-in-Ok
returns-in_ok-from_str-in-Ok c =
    text_in-utf8 c.args.bytes.now c.in-Ok.ensures.cases.1 ∙ ap Some (sym (c.in_ok-from_str-in-Ok.ensures ∙ c.in-Ok.ensures.cases.0))

pub returns-in-Err : goal.returns-in-Err
returns-in-Err c = text_in-none c.args.bytes.now c.in-Err.ensures.cases.0
