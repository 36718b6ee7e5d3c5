use Prim.Native.Nat.{◌*◌, ◌/◌, ◌≤◌}
use mathlib.Core.Path.{◌≡◌}
use lib.ListN.{length}
use Rattle.page.specs.CodePage.{shown}
use Rattle.repeats.proofs.Flagging.{InMarking}
use Rattle.repeats.proofs.flags.mark_block.Given as goal

abbrev pub invariant-loop-place : goal.invariant-loop-place
invariant-loop-place l =
    InMarking (length l.initial.table.places) (shown l.ascii l.file) l.start l.from l.place l.table.places l.table.count l.next l.kept l.flag l.flags × (l.records ≡ length (shown l.ascii l.file) / 850) × (length (shown l.ascii l.file) ≤ 65535 * 850)
