use Rattle.record.proofs.Held.{code_of}
use borrow.Author.Rules.{rules}
use Rattle.record.proofs.codes.has_code.Goals as goal

pub returns : goal.returns
returns c = search (rules, code_of)
