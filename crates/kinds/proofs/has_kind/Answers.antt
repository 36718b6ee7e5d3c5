use Rattle.record.proofs.CodeList.{code_read}
use Rattle.kinds.proofs.Counts.{at_place}
use borrow.Author.Rules.{rules}
use Rattle.kinds.proofs.has_kind.Goals as goal

pub returns : goal.returns
returns c = search (rules, at_place, code_read)
