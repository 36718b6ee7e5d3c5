use Prim.Native.Nat.{◌-◌}
use Rattle.record.specs.Value.{seen}
use Rattle.tables.proofs.Seeks.{Sought}
use Rattle.tables.proofs.seek.Given as goal

abbrev pub invariant-loop-low : goal.invariant-loop-low
invariant-loop-low l = Sought l.first.number l.key (seen l.first l.file) l.table l.count l.place l.low l.high

abbrev pub decreases-loop-low : goal.decreases-loop-low
decreases-loop-low l = l.high - l.low
