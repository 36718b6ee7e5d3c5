use Rattle.characters.specs.Characters.{rows_of, clean_in}
use Rattle.characters.proofs.Stretches.{stretches_of, all_valid, covers, last, coded}
use borrow.Author.Rules.{rules}
use Rattle.characters.proofs.is_clean.Goals as goal

pub returns-in-FileHeader : goal.returns-in-FileHeader
unfolding rows_of stretches_of all_valid
returns-in-FileHeader c = search (rules, coded, covers, last)

pub returns-in-Batch : goal.returns-in-Batch
unfolding rows_of
returns-in-Batch c = search (rules, coded)

pub returns-in-Detail : goal.returns-in-Detail
unfolding rows_of stretches_of all_valid
returns-in-Detail c = search (rules, coded, covers, last)

pub returns-in-Party : goal.returns-in-Party
unfolding rows_of stretches_of all_valid
returns-in-Party c = search (rules, coded, covers, last)

pub returns-in-Account : goal.returns-in-Account
unfolding rows_of stretches_of all_valid
returns-in-Account c = search (rules, coded, covers, last)

pub returns-in-Procurement : goal.returns-in-Procurement
unfolding rows_of stretches_of all_valid
returns-in-Procurement c = search (rules, coded, covers, last)

pub returns-in-BatchTrailer : goal.returns-in-BatchTrailer
unfolding rows_of stretches_of all_valid
returns-in-BatchTrailer c = search (rules, coded, covers, last)

pub returns-in-FileTrailer : goal.returns-in-FileTrailer
unfolding rows_of stretches_of all_valid
returns-in-FileTrailer c = search (rules, coded, covers, last)

pub returns-in-Unknown : goal.returns-in-Unknown
unfolding rows_of clean_in
returns-in-Unknown c = search (rules, coded)
