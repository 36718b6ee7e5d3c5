use Rattle.record.specs.Choice.{choose}
use Rattle.record.specs.Layout.{layout, position_in}
use Rattle.tables.specs.Kind.{kind_fields}
use Rattle.tables.specs.Comparing.{kind_field}
use Rattle.tables.proofs.Comparing.{last_field}
use borrow.Author.Rules.{rules}
use Rattle.tables.proofs.kind.kind_field.Goals as goal

pub returns-in-0 : goal.returns-in-0
unfolding kind_field kind_fields position_in layout choose
returns-in-0 c = cc

pub returns-in-1 : goal.returns-in-1
unfolding kind_field kind_fields position_in layout choose
returns-in-1 c = cc

pub returns-in-2 : goal.returns-in-2
unfolding kind_field kind_fields position_in layout choose
returns-in-2 c = cc

pub returns-in-3 : goal.returns-in-3
unfolding kind_field kind_fields position_in layout choose
returns-in-3 c = cc

pub returns-in-4 : goal.returns-in-4
unfolding kind_field kind_fields position_in layout choose
returns-in-4 c = cc

pub returns-in-5 : goal.returns-in-5
unfolding kind_field kind_fields position_in layout choose
returns-in-5 c = cc

pub returns-in-6 : goal.returns-in-6
unfolding kind_field kind_fields position_in layout choose
returns-in-6 c = cc

pub returns-in-7 : goal.returns-in-7
unfolding kind_field kind_fields position_in layout choose
returns-in-7 c = cc

pub returns-in_default : goal.returns-in_default
returns-in_default c = search (rules, last_field)
