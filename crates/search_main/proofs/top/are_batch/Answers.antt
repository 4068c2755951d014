use Rattle.std.proofs.Common.{ap, ◌∙◌}
use Rattle.std.specs.Prelude.{string_bytes, codes}
use Rattle.std.specs.Str.{bytes_eq}
use Rattle.search_main.proofs.Endings.{one_word}
use Rattle.search_main.proofs.top.are_batch.Goals as goal

pub returns-in-len1 : goal.returns-in-len1
returns-in-len1 c = one_word string_bytes c.args.words.now c.word-item.result c.eq.result c.in-len1.len_at_least c.in-len1.len_below c.word-item.is (c.eq.ensures ∙ ap (λ w. bytes_eq w (codes "batch")) c.as_str.ensures.value)
