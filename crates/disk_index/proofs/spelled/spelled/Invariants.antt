use Rattle.std.proofs.Common.{◌≡◌, ◌<◌, ℕ, List, [], true, length}
use Rattle.java_model.specs.IndexFile.Content.{Posting, rows_of, are_postings_after}
use Rattle.disk_index.proofs.RunLaws.{WordsSpelled}
use Rattle.disk_index.proofs.spelled.spelled.Given as goal

abbrev pub invariant-loop-rest : goal.invariant-loop-rest
invariant-loop-rest l = record {
  within : l.words.place < 16;
  spelled : (range : ℕ) (postings : List Posting) → are_postings_after range [] postings ≡ true → l.rows ≡ rows_of postings → WordsSpelled range l.words l.rest postings;
}

abbrev pub decreases-loop-rest : goal.decreases-loop-rest
decreases-loop-rest l = length l.rest
