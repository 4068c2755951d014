use Rattle.std.proofs.Common.{◌++◌, ◌∙◌, sym, ap, subst}
use Rattle.java_types.specs.Documents.{ComesAfter}
use Rattle.java_model.specs.ScriptText.{IsScriptDoc}
use Rattle.search_main.specs.Inner.Views.{entries_of, path_read}
use Rattle.search_main.proofs.Documents.{each_read, comes_next, environment_more}
use Rattle.search_main.proofs.environment.readable.Goals as goal

pub add-requires : goal.add-requires
add-requires c = record {
  legal = each_read IsScriptDoc c.args.opened.now c.loop-one.one-index c.one-item.result c.requires.legal c.loop-one-test.true c.one-item.is;
  after = subst (λ env. ComesAfter env (path_read c.one-item.result)) (sym c.loop-one.invariant) (comes_next c.args.opened.now c.loop-one.one-index c.one-item.result c.requires.order c.loop-one-test.true c.one-item.is);
}

pub loop-one-preserved : goal.loop-one-preserved
loop-one-preserved c =
    c.in_ok-add.ensures ∙ ap (λ env. env ++ entries_of c.one-item.result) c.loop-one.invariant ∙ sym (environment_more c.args.opened.now c.loop-one.one-index c.one-item.result c.loop-one-test.true c.one-item.is)
