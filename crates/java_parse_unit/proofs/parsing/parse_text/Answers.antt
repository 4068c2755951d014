use Rattle.std.proofs.Common.{◌≡◌, length, ap, ◌∙◌, sym, subst, arith}
use Rattle.java_parse_unit.proofs.ParseLaws.{few_tokens}
use Rattle.java_parse_unit.proofs.parsing.parse_text.Goals as goal

pub parse_tokens-requires : goal.parse_tokens-requires
parse_tokens-requires c =
    omega (arith, few_tokens c.args.level c.args.text.now c.in_ok-tokens.tokens.items c.utf8.text c.in_ok-tokens.ensures.answer, ap length c.as_slice.ensures.value, c.requires)
