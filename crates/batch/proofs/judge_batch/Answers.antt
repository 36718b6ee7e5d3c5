use Rattle.page.proofs.Shown.{sent_least, sent_most}
use Rattle.batch.proofs.Judged.{end_within, rest_few, first_few, row_once, row_twice}
use mathlib.Core.Path.{refl}
use Rattle.batch.proofs.judge_batch.Goals as goal

pub learn-learnt-requires : goal.learn-learnt-requires
learn-learnt-requires c =
    let j = c.requires.1 in
    let e = c.walk_batch-walked.ensures in
    (sent_least _ _ _ (end_within _ _ _ j _ e), sent_most _ _ _ (rest_few _ _ _ j _ e), first_few _ _ _ j _ e)

pub returns-in-None : goal.returns-in-None
returns-in-None c = row_once _ _ _ c.requires.1 _ c.walk_batch-walked.ensures refl c.in-None.ensures _ c.row_of.ensures

pub returns-in-Some : goal.returns-in-Some
returns-in-Some c = row_twice _ _ _ c.requires.1 _ c.walk_batch-walked.ensures _ c.in-Some.ensures _ c.walk_batch.ensures _ c.row_of-in-Some.ensures
