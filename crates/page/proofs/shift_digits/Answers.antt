use Rattle.page.proofs.Shown.{replaced_none, replaced_all}
use Rattle.page.proofs.Figures.{shift_room, shift_next}
use borrow.Author.Rules.{rules}
use Rattle.page.proofs.shift_digits.Goals as goal

pub loop-byte-init : goal.loop-byte-init
loop-byte-init c = search (rules, replaced_none)

pub overflow_add-byte : goal.overflow_add-byte
overflow_add-byte c = search (rules, shift_room)

pub loop-byte-preserved : goal.loop-byte-preserved
loop-byte-preserved c = search (rules, shift_next)

pub returns : goal.returns
returns c = search (rules, replaced_all)
