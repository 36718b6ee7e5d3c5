use Rattle.book.proofs.Walks.{flags_none, flags_start, flags_next, flags_stop, flags_end}
use borrow.Author.Rules.{rules}
use Rattle.book.proofs.reading.has_flags.Goals as goal

pub returns-then-section : goal.returns-then-section
returns-then-section c = search (rules, flags_none)

pub loop-i-init : goal.loop-i-init
loop-i-init c = flags_start _ _

pub returns-then-book-section-gt1 : goal.returns-then-book-section-gt1
returns-then-book-section-gt1 c = search (rules, flags_stop)

pub loop-i-preserved : goal.loop-i-preserved
loop-i-preserved c = search (rules, flags_next)

pub returns : goal.returns
returns c = flags_end _ _ c.loop-i.i (search rules) c.loop-i.invariant
