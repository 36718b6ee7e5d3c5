use Rattle.book.proofs.Lookup.{unsaid, unlisted, said_of}
use Rattle.record.proofs.Chain.{told, reads}
use borrow.Author.Rules.{rules}
use Rattle.book.proofs.search.look_up.Goals as goal

pub returns-then-field_blank : goal.returns-then-field_blank
returns-then-field_blank c = search (rules, unsaid, reads)

pub returns-in_err-entry : goal.returns-in_err-entry
returns-in_err-entry c = rw c.from_residual.ensures (unlisted _ _ _ (told _ _ _ c.field_blank.ensures c.if-field_blank.false) c.in_err-entry.ensures)

pub returns : goal.returns
returns c = said_of _ _ _ _ _ (told _ _ _ c.field_blank.ensures c.if-field_blank.false) c.in_ok-entry.ensures c.flag.ensures
