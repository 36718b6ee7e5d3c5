use Rattle.reasons.proofs.Laws.{put_together}
use borrow.Author.Rules.{rules}
use Rattle.reasons.proofs.checks.symbol_and_serial.Goals as goal

pub returns : goal.returns
returns c = rw (c.copy_from_slice.ensures.after, c.copy_from_slice-2.ensures.after) (put_together _ _ (search rules) (search rules))
