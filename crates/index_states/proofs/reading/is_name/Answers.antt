use Rattle.std.proofs.Common.{◌∙◌, sym, ap}
use Rattle.std.proofs.lemmas.Str.{is_utf8-from_IsUtf8, IsUtf8-from_is_utf8}
use Rattle.std.proofs.lemmas.Bool.{false_from_ne_true}
use Rattle.std.specs.Str.{is_utf8}
use Rattle.std.specs.Prelude.{Bool, ◌&&◌}
use Rattle.java_tree.specs.Names.{is_container}
use Rattle.index_states.proofs.reading.is_name.Goals as goal

pub returns-in-Ok : goal.returns-in-Ok
returns-in-Ok c =
    c.is_container.ensures ∙ ap is_container c.in-Ok.ensures.cases.0
    ∙ ap (λ (b : Bool). b && is_container c.args.name.now) (sym (is_utf8-from_IsUtf8 c.args.name.now c.in-Ok.ensures.cases.1))

pub returns-in-Err : goal.returns-in-Err
returns-in-Err c =
    ap (λ (b : Bool). b && is_container c.args.name.now)
    (sym (false_from_ne_true (is_utf8 c.args.name.now) (λ h. c.in-Err.ensures.cases.0 (IsUtf8-from_is_utf8 c.args.name.now h))))
