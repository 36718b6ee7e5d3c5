use mathlib.Core.Path.{refl}
use Rattle.record.specs.Fields.{check_first_serial_number}
use Rattle.record.proofs.Chain.{chain, reads, choose_no}
use Rattle.record.proofs.Held.{holds_no_digits}
use Rattle.batch.specs.Batch.{first_serial}
use borrow.Author.Rules.{rules}
use Rattle.batch.proofs.walk.first_serial.Goals as goal

pub returns-then-field_blank : goal.returns-then-field_blank
unfolding first_serial
returns-then-field_blank c = choose_no _ _ _ _ (holds_no_digits _ _ check_first_serial_number (search rules) _ c.field_blank.ensures (search rules) (search rules)) refl

pub field_number-requires : goal.field_number-requires
field_number-requires c = search (rules, reads)

pub returns-then-field_digits : goal.returns-then-field_digits
unfolding first_serial
returns-then-field_digits c = search (rules, chain, reads)

pub returns : goal.returns
unfolding first_serial
returns c = search (rules, chain, reads)
