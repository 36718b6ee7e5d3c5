use Rattle.record.proofs.Corrected.{led_none}
use Rattle.record.proofs.Moving.{lead_on, lead_here, lead_out}
use borrow.Author.Rules.{rules}
use Rattle.record.proofs.moved.lead.Goals as goal

pub loop-i-init : goal.loop-i-init
loop-i-init c = search (rules, led_none)

pub returns-then-is_filled : goal.returns-then-is_filled
returns-then-is_filled c = search (rules, lead_here)

pub loop-i-preserved : goal.loop-i-preserved
loop-i-preserved c = search (rules, lead_on)

pub returns : goal.returns
returns c = search (rules, lead_out)
