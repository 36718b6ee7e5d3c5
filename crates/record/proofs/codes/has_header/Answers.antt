use mathlib.Core.Path.{refl}
use mathlib.Core.Bool.{true}
use Rattle.page.specs.CodePage.{code_page, ebcdic, twins}
use Rattle.record.specs.declared.codes.Code.TheVariants.{Batch}
use Rattle.record.specs.declared.codes.Letter.TheVariants.{N, C, W, I}
use Rattle.record.specs.Codes.{code_bytes, letter_byte, is_header}
use Rattle.record.proofs.Chain.{told}
use Rattle.record.proofs.CodeList.{named, last_header}
use borrow.Author.Rules.{rules}
use Rattle.record.proofs.codes.has_header.Goals as goal

pub has_code-requires : goal.has_code-requires
unfolding twins ebcdic code_page
has_code-requires c = search rules

pub returns-then-has_code : goal.returns-then-has_code
unfolding code_bytes letter_byte is_header
returns-then-has_code c = named is_header (Batch N) true _ refl (search (rules, told))

pub has_code-requires-2 : goal.has_code-requires-2
unfolding twins ebcdic code_page
has_code-requires-2 c = search rules

pub returns-then-has_code-2 : goal.returns-then-has_code-2
unfolding code_bytes letter_byte is_header
returns-then-has_code-2 c = named is_header (Batch C) true _ refl (search (rules, told))

pub has_code-requires-3 : goal.has_code-requires-3
unfolding twins ebcdic code_page
has_code-requires-3 c = search rules

pub returns-then-has_code-3 : goal.returns-then-has_code-3
unfolding code_bytes letter_byte is_header
returns-then-has_code-3 c = named is_header (Batch W) true _ refl (search (rules, told))

pub has_code-requires-4 : goal.has_code-requires-4
unfolding twins ebcdic code_page
has_code-requires-4 c = search rules

pub returns-then-has_code-4 : goal.returns-then-has_code-4
unfolding code_bytes letter_byte is_header
returns-then-has_code-4 c = named is_header (Batch I) true _ refl (search (rules, told))

pub has_code-requires-5 : goal.has_code-requires-5
unfolding twins ebcdic code_page
has_code-requires-5 c = search rules

pub returns : goal.returns
unfolding code_bytes letter_byte
returns c = search (rules, told, last_header)
