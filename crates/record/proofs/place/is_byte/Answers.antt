use Rattle.record.proofs.Sent.{byte_told}
use borrow.Author.Rules.{rules}
use Rattle.record.proofs.place.is_byte.Goals as goal

pub returns : goal.returns
returns c = search (rules, byte_told)
