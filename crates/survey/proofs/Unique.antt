-- Each public function's contract allows one result for the same arguments: stated over the contract itself.
-- Assumes nothing.
use Rattle.record.proofs.Unique.{OneResult}
use Rattle.survey.proofs.Theorems.{one_survey}
use Rattle.survey.proofs.survey_file.Reads as survey-file

pub survey_file_unique : OneResult survey-file.Post
survey_file_unique κs a r s x y p q = one_survey _ r s p q
