use borrow.Author.Rules.{rules}
use Rattle.record.proofs.Held.{readable_part}
use Rattle.record.proofs.field_part.Goals as goal

pub returns : goal.returns
returns c = search (rules, readable_part)
