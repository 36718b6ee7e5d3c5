-- Each public function's contract allows one result for the same arguments: stated over the contract itself.
-- Assumes nothing.
use mathlib.Core.Path.{◌≡◌, sym, ◌∙◌}
use Rattle.batch.proofs.judge_batch.Reads as judge-batch

-- what may be judged begins with a batch, and its row is the one
pub judge_batch_unique : (κs : _) (a : _) (r s : _) (x y : _) → judge-batch.Pre κs a → judge-batch.Post κs a r x → judge-batch.Post κs a s y → r ≡ s
judge_batch_unique κs a r s x y w p q = let b = w.1.batch in p b.0 b.1 ∙ sym (q b.0 b.1)
