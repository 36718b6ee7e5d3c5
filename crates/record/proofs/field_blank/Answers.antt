use Rattle.page.specs.CodePage.{code_page, ebcdic, twins}
use Rattle.record.proofs.Held.{blank_of}
use borrow.Author.Rules.{rules}
use Rattle.record.proofs.field_blank.Goals as goal

pub is_only-requires : goal.is_only-requires
unfolding twins ebcdic code_page
is_only-requires c = search rules

pub returns : goal.returns
returns c = search (rules, blank_of)
