use Rattle.record.proofs.Leaves.{text_stands, text_same}
use borrow.Author.Rules.{rules}
use Rattle.record.proofs.field_is.Goals as goal

pub returns-then-stands : goal.returns-then-stands
returns-then-stands c = search (rules, text_stands)

pub returns : goal.returns
returns c = search (rules, text_same)
