use mathlib.Core.Path.{◌∙◌}
use borrow.Author.Rules.{rules}
use Rattle.record.proofs.Copies.{copied_none, copied_next, copied_all}
use Rattle.record.proofs.Moving.{moved_sent_length}
use Rattle.record.proofs.moved.copy_sent.Goals as goal

pub loop-i-init : goal.loop-i-init
loop-i-init c = search (rules, copied_none)

pub loop-i-preserved : goal.loop-i-preserved
loop-i-preserved c = search (rules, copied_next, moved_sent_length)

pub returns : goal.returns
returns c =
    copied_all _ _ c.args.moved.width (moved_sent_length _ _ c.requires.0) (c.loop-i.auto.to ∙ c.requires.1) c.loop-i.i c.loop-i.invariant (search rules)
