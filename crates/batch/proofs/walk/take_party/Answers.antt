use Rattle.batch.proofs.Laws.{party_taken}
use borrow.Author.Rules.{rules}
use Rattle.batch.proofs.walk.take_party.Goals as goal

pub returns : goal.returns
returns c = search (rules, party_taken)
