use native.Mathlib.Omega.{arith}
use Rattle.nesting.proofs.Arms.{account_room, procurement_room}
use borrow.Author.Rules.{rules}
use Rattle.nesting.proofs.reader.after.Goals as goal

pub overflow_add-state : goal.overflow_add-state
overflow_add-state c = omega (arith, account_room _ c.args.code _ (search rules) c.requires.3)

pub overflow_add-state-in-Procurement : goal.overflow_add-state-in-Procurement
overflow_add-state-in-Procurement c = omega (arith, procurement_room _ c.args.code _ (search rules) c.requires.3)
