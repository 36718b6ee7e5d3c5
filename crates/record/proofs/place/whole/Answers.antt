use borrow.Author.Rules.{rules}
use Rattle.record.proofs.Sent.{whole_of}
use Rattle.record.proofs.place.whole.Goals as goal

pub returns : goal.returns
returns c = search (rules, whole_of)
