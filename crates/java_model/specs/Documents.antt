-- Documents and their order.
use Rattle.std.specs.Prelude.{ℕ, List}
use Rattle.std.specs.declared.cmp.Ordering.{Ordering}
use Rattle.std.specs.Ordering.{nat_cmp, ordering_then}
use Rattle.std.specs.Cmp.Lexicographic.{slice_cmp}
use Rattle.std.specs.List.Sorted.{IsStrictlySortedBy}

-- a document is a container, a path, a version, a stamp and a text
pub record Document : Type 0 where
  pub container : List ℕ
  pub path : List ℕ
  pub version : ℕ
  pub stamp : ℕ
  pub text : List ℕ

-- by container, then by path, by bytes
abbrev pub document_cmp : Document → Document → Ordering
document_cmp a b = ordering_then (slice_cmp nat_cmp a.container b.container) (slice_cmp nat_cmp a.path b.path)

-- in order of their names, each name once
abbrev pub AreInOrder : List Document → Type 0
AreInOrder docs = IsStrictlySortedBy document_cmp docs
