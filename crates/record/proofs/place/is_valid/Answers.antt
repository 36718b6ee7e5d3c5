use Rattle.record.proofs.Sent.{valid_ascii, valid_plain}
use borrow.Author.Rules.{rules}
use Rattle.record.proofs.place.is_valid.Goals as goal

pub returns-then-place : goal.returns-then-place
returns-then-place c = search (rules, valid_ascii)

pub returns : goal.returns
returns c = search (rules, valid_plain)
