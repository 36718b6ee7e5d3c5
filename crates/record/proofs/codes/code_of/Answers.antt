use Rattle.record.specs.Choice.{◌and◌, choose}
use Rattle.record.specs.Codes.{code_in, code_bytes, letter_byte}
use Rattle.record.specs.Tests.{alike}
use Rattle.record.proofs.CodeList.{pair_code, no_first, no_detail, no_batch, no_frame}
use borrow.Author.Rules.{rules}
use Rattle.record.proofs.codes.code_of.Goals as goal

pub returns-in-196 : goal.returns-in-196
unfolding code_in code_bytes letter_byte alike choose ◌and◌
returns-in-196 c = search (rules, pair_code)

pub returns-in-196-2 : goal.returns-in-196-2
unfolding code_in code_bytes letter_byte alike choose ◌and◌
returns-in-196-2 c = search (rules, pair_code)

pub returns-in-196-3 : goal.returns-in-196-3
unfolding code_in code_bytes letter_byte alike choose ◌and◌
returns-in-196-3 c = search (rules, pair_code)

pub returns-in-196-4 : goal.returns-in-196-4
unfolding code_in code_bytes letter_byte alike choose ◌and◌
returns-in-196-4 c = search (rules, pair_code)

pub returns-in-196-5 : goal.returns-in-196-5
unfolding code_in code_bytes letter_byte alike choose ◌and◌
returns-in-196-5 c = search (rules, pair_code)

pub returns-in-196-6 : goal.returns-in-196-6
unfolding code_in code_bytes letter_byte alike choose ◌and◌
returns-in-196-6 c = search (rules, pair_code)

pub returns-in-196-7 : goal.returns-in-196-7
unfolding code_in code_bytes letter_byte alike choose ◌and◌
returns-in-196-7 c = search (rules, pair_code)

pub returns-in-196-8 : goal.returns-in-196-8
unfolding code_in code_bytes letter_byte alike choose ◌and◌
returns-in-196-8 c = search (rules, pair_code)

pub returns-in-194 : goal.returns-in-194
unfolding code_in code_bytes letter_byte alike choose ◌and◌
returns-in-194 c = search (rules, pair_code)

pub returns-in-194-2 : goal.returns-in-194-2
unfolding code_in code_bytes letter_byte alike choose ◌and◌
returns-in-194-2 c = search (rules, pair_code)

pub returns-in-194-3 : goal.returns-in-194-3
unfolding code_in code_bytes letter_byte alike choose ◌and◌
returns-in-194-3 c = search (rules, pair_code)

pub returns-in-194-4 : goal.returns-in-194-4
unfolding code_in code_bytes letter_byte alike choose ◌and◌
returns-in-194-4 c = search (rules, pair_code)

pub returns-in-194-5 : goal.returns-in-194-5
unfolding code_in code_bytes letter_byte alike choose ◌and◌
returns-in-194-5 c = search (rules, pair_code)

pub returns-in-194-6 : goal.returns-in-194-6
unfolding code_in code_bytes letter_byte alike choose ◌and◌
returns-in-194-6 c = search (rules, pair_code)

pub returns-in-198 : goal.returns-in-198
unfolding code_in code_bytes letter_byte alike choose ◌and◌
returns-in-198 c = search (rules, pair_code)

pub returns-in-198-2 : goal.returns-in-198-2
unfolding code_in code_bytes letter_byte alike choose ◌and◌
returns-in-198-2 c = search (rules, pair_code)

pub returns-in_default : goal.returns-in_default
returns-in_default c = search (rules, pair_code, no_detail) depth 20

pub returns-in_default-2 : goal.returns-in_default-2
returns-in_default-2 c = search (rules, pair_code, no_batch) depth 20

pub returns-in_default-3 : goal.returns-in_default-3
returns-in_default-3 c = search (rules, pair_code, no_frame) depth 20

pub returns-in_default-4 : goal.returns-in_default-4
returns-in_default-4 c = search (rules, pair_code, no_first) depth 20
