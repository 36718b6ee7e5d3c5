use Rattle.record.specs.Value.{seen}
use Prim.Native.Nat.{◌≤◌, ◌*◌}
use lib.ListN.{length}
use Rattle.repeats.proofs.Sought.{InBlock}
use Rattle.repeats.proofs.blocks.block.Given as goal

abbrev pub invariant-loop-place : goal.invariant-loop-place
invariant-loop-place l = (l.place ≤ l.best) × InBlock (length l.initial.table.places) l.first.number (seen l.first l.part) l.from l.best l.place l.table.places l.table.count l.next × (l.best * 850 ≤ length (seen l.first l.part)) × (length (seen l.first l.part) ≤ 65535 * 850)
