use Rattle.std.proofs.Common.{take}
use Rattle.java_overload.proofs.Firsts.{IsFirst}
use Rattle.java_overload.proofs.first.first_of.Given as goal

-- the first of those so far
abbrev pub invariant-loop-m : goal.invariant-loop-m
invariant-loop-m l = IsFirst l.env l.concrete (take l.m-index l.methods) l.first
