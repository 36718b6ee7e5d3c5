use Rattle.nesting.specs.Reader.{opens_payment}
use Rattle.nesting.proofs.Coding.{same_letters}
use Rattle.record.proofs.Chain.{chain, reads}
use borrow.Author.Rules.{rules}
use Rattle.nesting.proofs.reader.may_open_payment.Goals as goal

pub returns-then-is_at : goal.returns-then-is_at
unfolding opens_payment
returns-then-is_at c = rw (← same_letters c.args.letter c.args.state.letter) (search (rules, chain, reads))

pub returns-else-is_at : goal.returns-else-is_at
unfolding opens_payment
returns-else-is_at c = rw (← same_letters c.args.letter c.args.state.letter) (search (rules, chain, reads))

pub returns-else-eq : goal.returns-else-eq
unfolding opens_payment
returns-else-eq c = rw (← same_letters c.args.letter c.args.state.letter) (search (rules, chain, reads))
