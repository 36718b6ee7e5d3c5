use borrow.Author.Rules.{rules}
use Rattle.record.proofs.Prefix.{in_first, in_second, in_third, gap_first, gap_second, gap_third, is_eighty}
use Rattle.record.proofs.routing.prefix_listed.Goals as goal

pub returns-in_default : goal.returns-in_default
returns-in_default c = search (gap_first)

pub returns-in_default-2 : goal.returns-in_default-2
returns-in_default-2 c = search (gap_second)

pub returns-in_default-3 : goal.returns-in_default-3
returns-in_default-3 c = gap_third _ (search rules) c.in_default.in_default-own.rest.1

pub returns-in-0-to-12 : goal.returns-in-0-to-12
returns-in-0-to-12 c = is_eighty _ c.in-0-to-12.in-0-to-12-own.keys1

pub returns-in-0-to-12-2 : goal.returns-in-0-to-12-2
returns-in-0-to-12-2 c = search in_first

pub returns-in-0-to-12-3 : goal.returns-in-0-to-12-3
returns-in-0-to-12-3 c = search in_second

pub returns-in-0-to-12-4 : goal.returns-in-0-to-12-4
returns-in-0-to-12-4 c = search in_third
