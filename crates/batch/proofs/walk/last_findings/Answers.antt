use Rattle.batch.proofs.Rooms.{room}
use Rattle.batch.proofs.Laws.{then, in_context, emptied}
use Rattle.reasons.proofs.Firsts.{more}
use Rattle.reasons.proofs.Firsts as firsts
use Rattle.batch.specs.Walk.{last}
use borrow.Author.Rules.{rules}
use Rattle.batch.proofs.walk.last_findings.Goals as goal

pub trailer_rules-known-requires : goal.trailer_rules-known-requires
trailer_rules-known-requires c = search (rules, room)

pub returns : goal.returns
unfolding last
returns c =
    more _ _ _ _ _ _ _ _ c.note-known.ensures
    c.crowd_reason.ensures
    (then _ _ _ _ _ (in_context _ _ _ _ _ _ _ (emptied _ _ _ _ _ c.location_only-none.ensures c.context_of-context.ensures) c.trailer_rules-known.ensures) (firsts.last _ _ _ _ _ _ c.note.ensures c.summary_reason.ensures))
