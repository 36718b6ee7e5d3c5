use mathlib.Core.Path.{◌∙◌}
use Rattle.record.specs.Choice.{choose}
use Rattle.batch.specs.Walk.{learnt}
use Rattle.batch.proofs.Judged.{repeat_in}
use Rattle.batch.proofs.learn.Goals as goal

pub returns-then-falls : goal.returns-then-falls
unfolding learnt choose
returns-then-falls c = c.tell.ensures ∙ rw (c.if-falls.true, repeat_in _ _ _ _ _ c.first_repeat-repeat.ensures, c.has_crowd.ensures)

pub returns : goal.returns
unfolding learnt choose
returns c = c.tell-2.ensures ∙ rw (c.if-falls.false, c.has_crowd-2.ensures)
