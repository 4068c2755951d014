use Rattle.std.proofs.Common.{◌≡◌, ◌++◌, string_bytes, take}
use Rattle.std.specs.List.{flat_map}
use Rattle.java_model.specs.OutputText.{match_line}
use Rattle.script_text.proofs.printing.push_matches.Given as goal

abbrev pub invariant-loop-found : goal.invariant-loop-found
invariant-loop-found l = string_bytes l.out ≡ string_bytes l.initial.out ++ flat_map match_line (take l.found-index l.matches)
