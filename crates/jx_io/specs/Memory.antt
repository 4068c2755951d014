-- What contracts see of a source and of a sink in memory, and what a call of theirs does.
use Rattle.std.specs.Prelude.{ℕ, List, ◌++◌, drop, Contains}
use Rattle.jx_io.specs.Stream.{next_count}

-- the bytes that are left, the numbers of the calls that fail, the calls made and the calls failed
pub record SourceState : Type 0 where
  pub left : List ℕ
  pub failing : List ℕ
  pub calls : ℕ
  pub faults : ℕ

-- the bytes that were written, how many fit in all, and the rest as of a source
pub record SinkState : Type 0 where
  pub written : List ℕ
  pub room : ℕ
  pub failing : List ℕ
  pub calls : ℕ
  pub faults : ℕ

-- the next call is one of those that fail
abbrev pub FailsNext : List ℕ → ℕ → Type 0
FailsNext failing calls = Contains failing (next_count calls)

-- the source after a call that gave n bytes
abbrev pub source_after : SourceState → ℕ → SourceState
source_after s n = record s { left = drop n s.left; calls = next_count s.calls }

-- the source after a call that failed
abbrev pub failed_source : SourceState → SourceState
failed_source s = record s { calls = next_count s.calls; faults = next_count s.faults }

-- the sink after a call that took the piece
abbrev pub sink_after : SinkState → List ℕ → SinkState
sink_after s piece = record s { written = s.written ++ piece; calls = next_count s.calls }

-- the sink after a call that failed
abbrev pub failed_sink : SinkState → SinkState
failed_sink s = record s { calls = next_count s.calls; faults = next_count s.faults }
