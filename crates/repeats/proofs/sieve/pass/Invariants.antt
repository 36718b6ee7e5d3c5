use Rattle.record.specs.Value.{seen}
use Prim.Native.Nat.{◌≤◌}
use mathlib.Core.Path.{◌≡◌}
use lib.ListN.{length}
use Rattle.nesting.specs.Records.{cut}
use Rattle.repeats.specs.Sieve.{AllMarked, most_walks}
use Rattle.repeats.proofs.Passes.{Clean}
use Rattle.repeats.proofs.sieve.pass.Given as goal

abbrev pub invariant-loop-place : goal.invariant-loop-place
invariant-loop-place l = (l.place ≤ l.best) × (l.walks ≤ most_walks) × (length l.sieve ≡ 1024) × AllMarked l.classes l.class l.sieve (cut l.first.number l.place (seen l.first l.part)) × Clean l.classes l.class l.first.number (seen l.first l.part) l.place
