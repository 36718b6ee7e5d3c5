use Rattle.record.specs.Choice.{choose}
use Rattle.record.specs.Layout.{layout, position_in}
use Rattle.tables.specs.Kind.{kind_fields}
use Rattle.tables.specs.Comparing.{Under, Over}
use borrow.Author.Rules.{rules}
use Rattle.tables.proofs.kind.field_at.Goals as goal

pub returns-in-16 : goal.returns-in-16
unfolding Under Over kind_fields position_in layout choose
returns-in-16 c = search rules

pub returns-in-0-to-1 : goal.returns-in-0-to-1
unfolding Under Over kind_fields position_in layout choose
returns-in-0-to-1 c = search rules

pub returns-in-2-to-4 : goal.returns-in-2-to-4
unfolding Under Over kind_fields position_in layout choose
returns-in-2-to-4 c = search rules

pub returns-in-5-to-7 : goal.returns-in-5-to-7
unfolding Under Over kind_fields position_in layout choose
returns-in-5-to-7 c = search rules

pub returns-in-8-to-11 : goal.returns-in-8-to-11
unfolding Under Over kind_fields position_in layout choose
returns-in-8-to-11 c = search rules

pub returns-in-12-to-15 : goal.returns-in-12-to-15
unfolding Under Over kind_fields position_in layout choose
returns-in-12-to-15 c = search rules

pub returns-in-17-to-20 : goal.returns-in-17-to-20
unfolding Under Over kind_fields position_in layout choose
returns-in-17-to-20 c = search rules

pub returns-in-21-to-23 : goal.returns-in-21-to-23
unfolding Under Over kind_fields position_in layout choose
returns-in-21-to-23 c = search rules

pub returns-in-24-to-31 : goal.returns-in-24-to-31
unfolding Under Over kind_fields position_in layout choose
returns-in-24-to-31 c = search rules

pub returns-in_default : goal.returns-in_default
unfolding Under Over kind_fields position_in layout choose
returns-in_default c = search rules
