use Rattle.record.specs.Value.{seen}
use Prim.Native.Nat.{◌≤◌}
use mathlib.Core.Path.{◌≡◌}
use mathlib.Core.Bool.{true}
use Rattle.nesting.specs.Records.{record_at}
use Rattle.repeats.specs.Repeats.{is_of}
use Rattle.repeats.proofs.Walks.{Ahead}
use Rattle.repeats.proofs.walk.is_repeated.Given as goal

abbrev pub invariant-loop-earlier : goal.invariant-loop-earlier
invariant-loop-earlier l = (l.earlier ≤ l.place) × (is_of l.sort (record_at l.first.number l.place (seen l.first l.file)) ≡ true) × Ahead l.sort l.first.number l.place (seen l.first l.file) l.earlier
