use Rattle.judge.proofs.Ready.{ready, ready_usable, ready_writable, ready_promised, kept_promised}
use Rattle.judge.proofs.srf_judge_with.Goals as goal

pub returns-in-Err : goal.returns-in-Err
returns-in-Err c = kept_promised _ _ _ _ c.is_ascii-ascii.ensures _ _ c.in-Err.ensures _ c.answer.ensures

pub write_rows-requires : goal.write_rows-requires
write_rows-requires c =
    let r = ready _ _ _ _ _ c.in-Ok.ensures in
    (ready_usable _ _ _ _ _ r, ready_writable _ _ _ _ _ r)

pub returns-in-Ok : goal.returns-in-Ok
returns-in-Ok c =
    let r = ready _ _ _ _ _ c.in-Ok.ensures in
    ready_promised _ _ _ _ c.is_ascii-ascii.ensures _ _ r _ c.read_today-day.ensures _ c.write_rows.ensures
