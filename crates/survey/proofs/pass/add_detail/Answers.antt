use Rattle.survey.proofs.Steps.{fit_split, plus_split}
use borrow.Author.Rules.{rules}
use Rattle.survey.proofs.pass.add_detail.Goals as goal

pub plus-requires : goal.plus-requires
plus-requires c = search (rules, fit_split)

pub returns : goal.returns
returns c = search (rules, plus_split)
