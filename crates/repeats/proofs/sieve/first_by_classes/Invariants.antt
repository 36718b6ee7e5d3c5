use Rattle.record.specs.Value.{seen}
use Prim.Native.Nat.{◌≤◌, ◌<◌, ◌/◌}
use mathlib.Core.Path.{◌≡◌}
use lib.ListN.{length}
use Rattle.repeats.specs.Sieve.{most_walks}
use Rattle.repeats.proofs.Passes.{Best}
use Rattle.repeats.proofs.sieve.first_by_classes.Given as goal

abbrev pub invariant-loop-class : goal.invariant-loop-class
invariant-loop-class l = (l.class ≤ l.classes) × (0 < l.classes) × (l.walks ≤ most_walks) × (l.count ≡ length (seen l.first l.part) / 850) × Best l.classes l.first.number (seen l.first l.part) l.count l.best l.class
