use mathlib.Core.Path.{sym, ◌∙◌}
use Rattle.verdict.proofs.Divided.{batches_small, short, unclean_small, low, onward}
use Rattle.verdict.proofs.judge_divided.Goals as goal

pub room_for-requires : goal.room_for-requires
room_for-requires c = batches_small _ _ _ c.requires.0

pub returns-then-room-room_for : goal.returns-then-room-room_for
returns-then-room-room_for c = short _ _ _ c.requires.0 _ _ c.room_for.ensures c.if-room-room_for.true _ c.refuse.ensures

pub refuse-requires-in-Some : goal.refuse-requires-in-Some
refuse-requires-in-Some c = unclean_small _ _ _ c.requires.0 _ (sym c.in-Some.is ∙ c.requires.1)

pub returns-in-Some : goal.returns-in-Some
returns-in-Some c =
    low _ _ _ c.requires.0 _ _ c.room_for.ensures c.if-room-room_for.false _ (sym c.in-Some.is ∙ c.requires.1) _ c.refuse-in-Some.ensures

pub returns : goal.returns
returns c =
    onward _ _ _ c.requires.0 _ _ c.room_for.ensures c.if-room-room_for.false (sym c.in_default.is ∙ c.requires.1) _ c.judge_frame.ensures
