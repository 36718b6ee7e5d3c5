use Rattle.record.specs.Fields.{check_symbol_number}
use Rattle.record.proofs.Held.{holds_blanks}
use borrow.Author.Rules.{rules}
use Rattle.rules.proofs.symbol_of.Goals as goal

pub returns-then-field_blank : goal.returns-then-field_blank
returns-then-field_blank c = holds_blanks _ _ check_symbol_number (search rules) _ c.field_blank.ensures (search rules)
