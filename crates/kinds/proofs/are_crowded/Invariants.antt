use Prim.Native.Nat.{◌/◌, ◌≤◌}
use mathlib.Core.Path.{◌≡◌}
use lib.ListN.{length}
use Rattle.record.specs.Value.{seen}
use Rattle.kinds.proofs.Counts.{Counted}
use Rattle.kinds.proofs.are_crowded.Given as goal

abbrev pub invariant-loop-place : goal.invariant-loop-place
invariant-loop-place l = (l.table.count ≤ 1000) × Counted l.first.number (seen l.first l.part) l.records l.place l.table.places l.table.count × (l.records ≡ length (seen l.first l.part) / 850)
