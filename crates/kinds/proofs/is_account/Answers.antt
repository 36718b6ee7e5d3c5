use Rattle.kinds.specs.Kinds.{is_account}
use Rattle.kinds.proofs.OtherCodes.{not_account}
use borrow.Author.Rules.{rules}
use Rattle.kinds.proofs.is_account.Goals as goal

pub returns-in-Account : goal.returns-in-Account
unfolding is_account
returns-in-Account c = cc

pub returns-in_default : goal.returns-in_default
returns-in_default c = search (rules, not_account)
