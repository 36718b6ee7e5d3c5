use Rattle.page.specs.CodePage.{code_page, ebcdic, twins}
use borrow.Author.Rules.{rules}
use Rattle.rules.proofs.detail.start_c.Goals as goal

pub field_is-voided-requires : goal.field_is-voided-requires
unfolding twins ebcdic code_page
field_is-voided-requires c = search rules
