use Rattle.std.proofs.Common.{◌∙◌, ap, sym, arith, rules, tests}
use Rattle.std.specs.List.{list_all}
use Rattle.std.proofs.lemmas.Iterator.Search.{all_from_yields_List}
use Rattle.std.proofs.lemmas.Iterator.Splits.{YieldsList-from_str_split}
use Rattle.java_tree.specs.Names.{is_container}
use Rattle.script_text.proofs.Scripts.SearchWords.{separated_is}
use Rattle.script_text.proofs.words.are_containers.Goals as goal

pub returns : goal.returns
returns c =
    all_from_yields_List is_container _ _ c.all.result c.all.ensures.ran (YieldsList-from_str_split 44 c.args.word.now (omega arith) c.split.ensures.text c.split.ensures.has_more c.split.ensures.pattern) (λ x b q k. search (rules, tests))
    ∙ ap (list_all is_container) (sym (separated_is c.args.word.now))
