use Rattle.record.proofs.CodeList.{code_sent, code_shown}
use borrow.Author.Rules.{rules}
use Rattle.record.proofs.codes.code_bytes.Goals as goal

pub returns-then-line : goal.returns-then-line
returns-then-line c = search (rules, code_shown)

pub returns : goal.returns
returns c = search (rules, code_sent)
