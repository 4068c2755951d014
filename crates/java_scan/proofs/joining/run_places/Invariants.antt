use Rattle.std.proofs.Common.{◌≡◌, ◌++◌, map, length}
use Rattle.java_model.specs.Lexical.Escapes.{raw}
use Rattle.java_scan.specs.Place.{after_run, no_backslash}
use Rattle.java_scan.specs.Joining.{places_of, run_of}
use Rattle.java_scan.proofs.joining.run_places.Given as goal

-- the run that is left ends where the whole run does, and its places are what is wanting
abbrev pub invariant-loop-c : goal.invariant-loop-c
invariant-loop-c l = record {
  after : after_run no_backslash l.cursor ≡ after_run no_backslash l.fn.cursor;
  placed : l.places.items ++ places_of l.cursor.at (map raw (run_of l.cursor)) ≡ l.fn.places.items ++ places_of l.fn.cursor.at (map raw (run_of l.fn.cursor));
}

abbrev pub decreases-loop-c : goal.decreases-loop-c
decreases-loop-c l = length l.cursor.left
