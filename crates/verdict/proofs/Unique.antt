-- Each public function's contract allows one result for the same arguments: stated over the contract itself.
-- Assumes nothing.
use mathlib.Core.Path.{sym, ◌∙◌}
use Rattle.record.proofs.Unique.{OneResult}
use Rattle.verdict.proofs.Theorems.{one_judgement}
use Rattle.verdict.proofs.file_answer.Reads as file-answer
use Rattle.verdict.proofs.Refusal.answer.Reads as answer

pub file_answer_unique : OneResult file-answer.Post
file_answer_unique κs a r s x y p q = one_judgement _ _ _ _ r s p q

pub answer_unique : OneResult answer.Post
answer_unique κs a r s x y p q = p ∙ sym q
