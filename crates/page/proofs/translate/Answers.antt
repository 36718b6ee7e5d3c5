use Rattle.page.proofs.CodePage.{low_byte, high_byte, page_byte}
use Rattle.page.specs.CodePage.{code_page}
use borrow.Author.Rules.{rules}
use Rattle.page.proofs.translate.Goals as goal

pub returns-in-32-to-126 : goal.returns-in-32-to-126
unfolding code_page
returns-in-32-to-126 c = search (rules, page_byte)

pub returns-in_default : goal.returns-in_default
returns-in_default c = search (rules, low_byte)

pub returns-in_default-2 : goal.returns-in_default-2
returns-in_default-2 c = search (rules, high_byte)
