use mathlib.Core.Path.{◌∙◌}
use borrow.Author.Rules.{rules}
use Rattle.record.proofs.Copies.{copied_none, copied_next, copied_all}
use Rattle.record.proofs.place.copy_sent.Goals as goal

pub loop-i-init : goal.loop-i-init
loop-i-init c = search (rules, copied_none)

pub bounds-bytes-i : goal.bounds-bytes-i
bounds-bytes-i c = search rules

pub loop-i-preserved : goal.loop-i-preserved
loop-i-preserved c = search (rules, copied_next)

pub returns : goal.returns
returns c =
    copied_all _ _ c.args.place.width c.sent-bytes.ensures.1 (c.loop-i.auto.to ∙ c.requires.1) c.loop-i.i c.loop-i.invariant (search rules)
    ∙ c.sent-bytes.ensures.0
