use mathlib.Core.Path.{◌≡◌}
use lib.ListN.{length}
use Rattle.record.proofs.Chain.{reads}
use Rattle.repeats.proofs.Greatest.{read_after}
use Rattle.repeats.proofs.Climbs.{climb_fallen, climb_past, climb_up, climb_down}
use borrow.Author.Rules.{rules}
use Rattle.repeats.proofs.climb.climb.Goals as goal

pub returns-then-known : goal.returns-then-known
returns-then-known c = search (rules, climb_fallen)

pub returns-then-not-is_detail : goal.returns-then-not-is_detail
returns-then-not-is_detail c = search (rules, climb_past, reads)

pub is_after-requires : goal.is_after-requires
is_after-requires c =
    let g : length c.args.known.greatest ≡ 20 = search rules in
    search rules

pub returns-then-is_after : goal.returns-then-is_after
returns-then-is_after c = search (rules, climb_up, read_after, reads)

pub returns : goal.returns
returns c = search (rules, climb_down, read_after, reads)
