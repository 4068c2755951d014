use Rattle.std.proofs.Common.{◌≡◌, drop}
use Rattle.java_model.specs.SearchPattern.NameMatch.{is_camel}
use Rattle.search_pattern.proofs.CamelNames.{left_matches}
use Rattle.search_pattern.proofs.camel.is_camel.Given as goal

abbrev pub invariant-loop-byte : goal.invariant-loop-byte
invariant-loop-byte l = left_matches (drop l.byte-index l.more) l.left ≡ is_camel l.pattern l.name
