use Rattle.std.proofs.Common.{◌≡◌, ◌++◌, take}
use Rattle.java_types.specs.Packages.{prefixes_of}
use Rattle.java_types.proofs.packages.add_prefixes.Given as goal

-- the outer packages so far
abbrev pub invariant-loop-length : goal.invariant-loop-length
invariant-loop-length l = l.names ≡ l.fn.names ++ take l.length (prefixes_of l.name)
