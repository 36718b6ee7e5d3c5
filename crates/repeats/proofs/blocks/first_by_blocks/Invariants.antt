use Rattle.record.specs.Value.{seen}
use Prim.Native.Nat.{◌-◌, ◌/◌}
use mathlib.Core.Path.{◌≡◌}
use lib.ListN.{length}
use Rattle.repeats.proofs.Sought.{Sought}
use Rattle.repeats.proofs.blocks.first_by_blocks.Given as goal

abbrev pub invariant-loop-from : goal.invariant-loop-from
invariant-loop-from l = (l.count ≡ length (seen l.first l.part) / 850) × Sought l.first.number (seen l.first l.part) l.count l.best l.from

abbrev pub decreases-loop-from : goal.decreases-loop-from
decreases-loop-from l = l.count - l.from
