-- In which order the occurrences of a unit stand.
use Rattle.std.specs.Prelude.{◌≡◌, ◌<◌, ◌^◌, ℕ, suc, List, Some, slice_get, Contains}
use Rattle.java_tree.specs.declared.occurrence.Occurrence.{Occurrence}
use Rattle.java_tree.specs.declared.token.Token.{Token}
use Rattle.java_tree.specs.declared.unit.Unit.{Unit as CompilationUnit}
use Rattle.java_model.specs.Grammar.Units.{IsUnit}
use Rattle.java_model.specs.Lexical.Tokens.{RiseWithin}
use Rattle.java_model.specs.Scopes.Contexts.{Context}
use Rattle.java_model.specs.Occurrences.Occurrences.{Occurrences, kind_number}

-- One occurrence stands before another by its start, then by its end, then by the number of its kind. Two that are of one
-- kind and have one span stand in either order; a unit of a text has no such two.
pub data StandsBefore (o q : Occurrence) : Type 0 where
  by_start : o.span.start < q.span.start → StandsBefore o q
  by_end : o.span.start ≡ q.span.start → o.span.end < q.span.end → StandsBefore o q
  by_kind : o.span ≡ q.span → kind_number o.kind < kind_number q.kind → StandsBefore o q
  alike : o.span ≡ q.span → o.kind ≡ q.kind → StandsBefore o q

-- The occurrences of a text of less than 4 GiB stand in order.
abbrev pub OccurrencesStandInOrder : Type 0
OccurrencesStandInOrder = (C : Context) (u : CompilationUnit) (os : List Occurrence) → Occurrences C u os
    → ((o : Occurrence) → Contains os o → o.span.end < 2 ^ 32)
    → (i : ℕ) (o q : Occurrence) → slice_get os i ≡ Some o → slice_get os (suc i) ≡ Some q → StandsBefore o q

-- No two occurrences of a unit have one start and one kind, where the spans of its tokens rise.
abbrev pub OccurrencesAreStrict : Type 0
OccurrencesAreStrict = (low high : ℕ) (tokens : List Token) (u : CompilationUnit) (C : Context) (os : List Occurrence) → RiseWithin low high tokens
    → IsUnit tokens u → C.types ≡ u.types → Occurrences C u os → (i j : ℕ) (o q : Occurrence) → i < j → slice_get os i ≡ Some o → slice_get os j ≡ Some q
    → o.span.start ≡ q.span.start → o.kind ≡ q.kind → ⊥

-- A unit has one list of occurrences, where the spans of its tokens rise and end before 4 GiB.
abbrev pub OccurrencesAreUnique : Type 0
OccurrencesAreUnique = (low high : ℕ) (tokens : List Token) (u : CompilationUnit) (C : Context) (os us : List Occurrence) → high < 2 ^ 32
    → RiseWithin low high tokens → IsUnit tokens u → C.types ≡ u.types → Occurrences C u os → Occurrences C u us → os ≡ us
