use Rattle.record.proofs.Moving.{all_not, all_kept}
use Rattle.record.proofs.moved.deciding.Goals as goal

pub returns-then-moved : goal.returns-then-moved
returns-then-moved c = all_not _ _ _ _ c.find-moved.ensures c.if-moved.true

pub returns : goal.returns
returns c = (c.find-moved.ensures.fits.within, all_kept _ _ _ _ c.find-moved.ensures c.if-moved.false)
