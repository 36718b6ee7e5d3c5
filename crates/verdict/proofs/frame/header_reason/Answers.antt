use Rattle.page.specs.CodePage.{code_page, ebcdic, twins}
use Rattle.verdict.specs.Order.{header_reason}
use Rattle.record.proofs.Chain.{chain, reads}
use borrow.Author.Rules.{rules}
use Rattle.verdict.proofs.frame.header_reason.Goals as goal

pub returns-then-is_strange : goal.returns-then-is_strange
unfolding header_reason
returns-then-is_strange c = search (rules, chain, reads)

pub field_is-requires : goal.field_is-requires
unfolding twins ebcdic code_page
field_is-requires c = search rules

pub returns-then-field_is : goal.returns-then-field_is
unfolding header_reason
returns-then-field_is c = search (rules, chain, reads)

pub returns : goal.returns
unfolding header_reason
returns c = search (rules, chain, reads)
