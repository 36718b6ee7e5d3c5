use Rattle.page.specs.CodePage.{shown}
use mathlib.Core.Path.{◌≡◌}
use Prim.Native.Nat.{◌-◌, ◌/◌}
use lib.ListN.{length}
use Rattle.repeats.specs.declared.Sort.TheVariants.{Batches}
use Rattle.repeats.specs.Repeats.{numbers}
use Rattle.repeats.specs.Blocks.{between}
use Rattle.repeats.specs.Marking.{Marked}
use Rattle.repeats.proofs.flags.mark_batches.Given as goal

abbrev pub invariant-loop-next : goal.invariant-loop-next
invariant-loop-next l =
    Marked (shown l.ascii l.file) l.start l.next.place l.flags × (l.next.index ≡ length (numbers Batches (between 1 l.start l.next.place (shown l.ascii l.file)))) × (l.records ≡ length (shown l.ascii l.file) / 850)

abbrev pub decreases-loop-next : goal.decreases-loop-next
decreases-loop-next l = l.records - l.next.place
