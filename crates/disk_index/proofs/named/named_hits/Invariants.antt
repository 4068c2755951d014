use Rattle.std.proofs.Common.{◌≡◌, List, [], true, length, drop, Ok}
use Rattle.java_model.specs.IndexFile.Content.{Posting, are_postings_after}
use Rattle.java_model.specs.IndexFile.Reading.{postings_at}
use Rattle.disk_index.proofs.NamedWords.{Searched}
use Rattle.disk_index.proofs.named.named_hits.Given as goal

abbrev pub invariant-loop-byte : goal.invariant-loop-byte
invariant-loop-byte g l =
    (postings : List Posting) → postings_at (length l.file) l.range (drop l.words l.file) ≡ Ok postings → are_postings_after l.range [] postings ≡ true
    → Searched (g.P.Admit.admitted l.pattern) l.byte postings l.hits.items
