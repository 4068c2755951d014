-- What an explicit constructor invocation calls, where its first two tokens show it (JLS 8.8.5.1).
use Rattle.std.specs.Prelude.{Option, Some, None}
use Rattle.java_tree.specs.declared.unit.Callee.{Callee}
use Rattle.java_tree.specs.declared.unit.Callee.TheVariants as callees
use Rattle.java_unit_reading.specs.Reading.Members.{Opening, with_this, with_super, other}

abbrev pub callee_of : Opening → Option Callee
callee_of (with_this s) = Some (callees.This s)
callee_of (with_super s) = Some (callees.Super None s)
callee_of other = None
