use Rattle.page.proofs.Shown.{replaced_none, replaced_next, replaced_all}
use borrow.Author.Rules.{rules}
use Rattle.page.proofs.translate_all.Goals as goal

pub loop-byte-init : goal.loop-byte-init
loop-byte-init c = search (rules, replaced_none)

pub loop-byte-preserved : goal.loop-byte-preserved
loop-byte-preserved c = search (rules, replaced_next)

pub returns : goal.returns
returns c = search (rules, replaced_all)
