use borrow.Author.Rules.{rules}
use borrow.Author.Rules.{rules}
use Rattle.page.specs.CodePage.{twins, ebcdic, code_page}
use mathlib.Core.Bool.{not}
use mathlib.Core.Path.{ap}
use Rattle.record.proofs.moved.is_filled.Goals as goal

pub is_byte-requires : goal.is_byte-requires
unfolding twins ebcdic code_page
is_byte-requires c = search rules

pub returns : goal.returns
returns c = ap not c.is_byte.ensures
