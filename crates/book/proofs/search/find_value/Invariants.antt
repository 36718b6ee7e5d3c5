use Prim.Native.Nat.{◌-◌}
use Rattle.book.proofs.Lookup.{Sought}
use Rattle.book.proofs.search.find_value.Given as goal

abbrev pub invariant-loop-low : goal.invariant-loop-low
invariant-loop-low l = Sought l.book l.section l.value l.low l.high

abbrev pub decreases-loop-low : goal.decreases-loop-low
decreases-loop-low l = l.high - l.low
