use Rattle.verdict.specs.Order.{numbered_in}
use Rattle.record.proofs.Chain.{chain, reads}
use borrow.Author.Rules.{rules}
use Rattle.verdict.proofs.frame.is_numbered.Goals as goal
use Rattle.verdict.proofs.frame.is_numbered.Goals.{then-field_digits, else-field_digits}

pub returns-then-field_digits-2 : goal.returns-then-field_digits-2
unfolding numbered_in
returns-then-field_digits-2 c =
    elim c.if-field_digits.branch [ then-field_digits w ↦ search (rules, chain, reads) | else-field_digits w ↦ search (rules, chain, reads) ]

pub returns-else-field_digits-2 : goal.returns-else-field_digits-2
unfolding numbered_in
returns-else-field_digits-2 c =
    elim c.if-field_digits.branch [ then-field_digits w ↦ search (rules, chain, reads) | else-field_digits w ↦ search (rules, chain, reads) ]
