use Rattle.survey.proofs.Steps.{step_is, room_batches, room_payments, room_fit}
use borrow.Author.Rules.{rules}
use Rattle.survey.proofs.pass.step.Goals as goal

pub after-requires : goal.after-requires
after-requires c = search (rules, room_batches, room_payments)

pub add_detail-requires : goal.add_detail-requires
add_detail-requires c = search (rules, room_fit)

pub returns : goal.returns
returns c = search (rules, step_is)
