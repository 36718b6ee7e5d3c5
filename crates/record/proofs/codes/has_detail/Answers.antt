use mathlib.Core.Path.{refl}
use mathlib.Core.Bool.{true, false}
use Rattle.page.specs.CodePage.{code_page, ebcdic, twins}
use Rattle.record.specs.declared.codes.Code.TheVariants.{Detail, Party}
use Rattle.record.specs.declared.codes.Letter.TheVariants.{N, C, W, I}
use Rattle.record.specs.Codes.{code_bytes, letter_byte, is_detail}
use Rattle.record.proofs.Chain.{told}
use Rattle.record.proofs.CodeList.{named, last_detail}
use borrow.Author.Rules.{rules}
use Rattle.record.proofs.codes.has_detail.Goals as goal

pub has_code-requires : goal.has_code-requires
unfolding twins ebcdic code_page
has_code-requires c = search rules

pub returns-then-has_code : goal.returns-then-has_code
unfolding code_bytes letter_byte is_detail
returns-then-has_code c = named is_detail Party false _ refl (search (rules, told))

pub has_code-requires-2 : goal.has_code-requires-2
unfolding twins ebcdic code_page
has_code-requires-2 c = search rules

pub returns-then-has_code-2 : goal.returns-then-has_code-2
unfolding code_bytes letter_byte is_detail
returns-then-has_code-2 c = named is_detail (Detail N) true _ refl (search (rules, told))

pub has_code-requires-3 : goal.has_code-requires-3
unfolding twins ebcdic code_page
has_code-requires-3 c = search rules

pub returns-then-has_code-3 : goal.returns-then-has_code-3
unfolding code_bytes letter_byte is_detail
returns-then-has_code-3 c = named is_detail (Detail C) true _ refl (search (rules, told))

pub has_code-requires-4 : goal.has_code-requires-4
unfolding twins ebcdic code_page
has_code-requires-4 c = search rules

pub returns-then-has_code-4 : goal.returns-then-has_code-4
unfolding code_bytes letter_byte is_detail
returns-then-has_code-4 c = named is_detail (Detail W) true _ refl (search (rules, told))

pub has_code-requires-5 : goal.has_code-requires-5
unfolding twins ebcdic code_page
has_code-requires-5 c = search rules

pub returns-then-has_code-5 : goal.returns-then-has_code-5
unfolding code_bytes letter_byte is_detail
returns-then-has_code-5 c = named is_detail (Detail I) true _ refl (search (rules, told))

pub has_code-requires-6 : goal.has_code-requires-6
unfolding twins ebcdic code_page
has_code-requires-6 c = search rules

pub returns : goal.returns
unfolding code_bytes letter_byte
returns c = search (rules, told, last_detail)
