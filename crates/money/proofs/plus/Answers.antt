use borrow.Author.Rules.{rules}
use native.Mathlib.Omega.{arith}
use Rattle.money.proofs.Amounts.{high_room, low_room, plus_plain, plus_carry}
use Rattle.money.proofs.plus.Goals as goal

pub overflow_add-high : goal.overflow_add-high
overflow_add-high c = omega (arith, high_room _ _ c.requires)

pub overflow_add-low : goal.overflow_add-low
overflow_add-low c = omega (arith, low_room _ _ c.requires)

pub returns-then-low-lt10000000000 : goal.returns-then-low-lt10000000000
returns-then-low-lt10000000000 c = search (rules, plus_plain)

pub overflow_add-result : goal.overflow_add-result
overflow_add-result c = omega (arith, high_room _ _ c.requires)

pub returns : goal.returns
returns c = search (rules, plus_carry)
