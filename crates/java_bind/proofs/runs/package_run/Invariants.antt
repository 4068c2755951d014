use Rattle.std.proofs.Common.{◌≡◌, ◌≤◌, [], take, drop, length}
use Rattle.std.specs.List.{zip}
use Rattle.java_model.specs.Occurrences.References.{package_run}
use Rattle.java_bind.proofs.runs.package_run.Given as goal

-- the identifiers so far name a package
abbrev pub invariant-loop-at : goal.invariant-loop-at
invariant-loop-at l = record {
  within : l.at ≤ length l.name;
  run : package_run [] (zip l.name l.kinds) ≡ package_run (take l.at l.name) (zip (drop l.at l.name) (drop l.at l.kinds));
}
