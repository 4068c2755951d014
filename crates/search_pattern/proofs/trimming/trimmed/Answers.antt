use Rattle.std.proofs.Common.{ap, ◌∙◌}
use Rattle.java_model.specs.SearchPattern.Texts.{without_trailing_spaces}
use Rattle.search_pattern.proofs.Spaces.{leading_cut, trailing_cut}
use Rattle.search_pattern.proofs.trimming.trimmed.Goals as goal

pub returns : goal.returns
returns c =
    trailing_cut c.trim_start_matches.result.now c.trim_end_matches.result.now c.trim_end_matches.ensures.matches
    ∙ ap without_trailing_spaces (leading_cut c.args.text.now c.trim_start_matches.result.now c.trim_start_matches.ensures.matches)
