use Prim.Native.Nat.{◌*◌}
use Rattle.page.specs.CodePage.{shown}
use Rattle.survey.specs.Pass.{High}
use Rattle.survey.proofs.Turns.{Surveying}
use Rattle.survey.proofs.survey_file.Given as goal

abbrev pub invariant-loop-index : goal.invariant-loop-index
invariant-loop-index l = Surveying (shown l.ascii l.file) l.going l.index (l.index * 850) × High (shown l.ascii l.file) (l.index * 850) l.reached
