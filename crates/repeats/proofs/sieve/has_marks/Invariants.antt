use Prim.Native.Nat.{◌-◌}
use mathlib.Core.Path.{◌≡◌}
use Rattle.repeats.specs.Sieve.{has_marks, has_next, mark_count}
use Rattle.repeats.proofs.sieve.has_marks.Given as goal

abbrev pub invariant-loop : goal.invariant-loop
invariant-loop l = has_marks l.sieve l.hash ≡ has_next l.sieve (mark_count - l.counter) l.rest
