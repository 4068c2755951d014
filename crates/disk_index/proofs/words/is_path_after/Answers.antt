use Rattle.std.proofs.Common.{◌∙◌, sym}
use Rattle.disk_index.proofs.ByteTests.{path_after, no_path_after}
use Rattle.disk_index.proofs.words.is_path_after.Goals as goal

pub returns-then-is_before : goal.returns-then-is_before
returns-then-is_before c =
    c.is_source_path.ensures ∙ path_after c.args.previous.now c.args.path.now c.in-Ok.text.now (sym c.if-is_before.true ∙ c.is_before.ensures) c.in-Ok.ensures.cases.1 c.in-Ok.ensures.cases.0

pub returns-in-Err : goal.returns-in-Err
returns-in-Err c = no_path_after c.args.previous.now c.args.path.now c.in-Err.ensures.cases.0
