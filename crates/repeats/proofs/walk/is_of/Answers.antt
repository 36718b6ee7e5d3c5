use Rattle.repeats.proofs.Places.{of_payments, of_batches}
use borrow.Author.Rules.{rules}
use Rattle.repeats.proofs.walk.is_of.Goals as goal

pub returns-in-Payments : goal.returns-in-Payments
returns-in-Payments c = search (rules, of_payments)

pub returns-in-Batches : goal.returns-in-Batches
returns-in-Batches c = search (rules, of_batches)
