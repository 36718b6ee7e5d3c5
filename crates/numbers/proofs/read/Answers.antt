use Prim.Native.Nat.{◌<◌}
use mathlib.Core.Path.{◌≡◌}
use mathlib.Core.List.{reverse}
use lib.ListN.{length, get_or}
use Rattle.std.proofs.SliceLists.{length_more}
use Rattle.std.proofs.lemmas.Iterator.Consumers.{YieldsList-turn}
use Rattle.std.proofs.lemmas.Iterator.Adapters.{YieldsList-from_rev_slice}
use Rattle.numbers.proofs.Reading.{read_none, turn_room, turn}
use borrow.Author.Rules.{rules}
use Rattle.numbers.proofs.read.Goals as goal
use Rattle.numbers.proofs.read.Goals.{After-wide-least}

-- the byte that the loop comes to is the next of the part from behind
next_byte : (c : After-wide-least) → (length c.loop-byte.yielded < length (reverse c.args.part.now)) × (c.in-Some.byte.now ≡ get_or (reverse c.args.part.now) (length c.loop-byte.yielded) c.in-Some.byte.now)
next_byte c = YieldsList-turn (YieldsList-from_rev_slice c.args.part.now (cc)) _ _ c.loop-byte.yielded_by _ _ _ c.in-Some.is c.next.ensures.steps

pub loop-byte-init : goal.loop-byte-init
loop-byte-init c = read_none c.args.part.now

pub overflow_mul-number : goal.overflow_mul-number
overflow_mul-number c =
    let h = turn_room c.loop-byte.invariant (next_byte c) c.requires in
    search rules

pub overflow_add-number : goal.overflow_add-number
overflow_add-number c =
    let h = turn_room c.loop-byte.invariant (next_byte c) c.requires in
    search rules

pub loop-byte-preserved : goal.loop-byte-preserved
loop-byte-preserved c = turn c.loop-byte.invariant (next_byte c) _ (length_more _ _) _ (search rules) (search rules)
