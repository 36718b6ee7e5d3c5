use Prim.Native.Nat.{◌-◌}
use mathlib.Core.Path.{◌≡◌}
use Rattle.repeats.specs.Sieve.{with_marks, with_next, mark_count}
use Rattle.repeats.proofs.sieve.give_marks.Given as goal

abbrev pub invariant-loop : goal.invariant-loop
invariant-loop l = with_marks l.initial.sieve l.hash ≡ with_next l.sieve (mark_count - l.counter) l.rest
