use mathlib.Core.Path.{◌≡◌, refl}
use mathlib.Core.Bool.{Bool, true, false, beq, not}
use Rattle.record.specs.Choice.{choose}
use Rattle.nesting.specs.Reader.{besides}
use Rattle.nesting.proofs.Coding.{is_check_letter}
use Rattle.nesting.proofs.reader.may_stand_beside.Goals as goal

-- two tests that agree
agree : (a b : Bool) → beq a b ≡ choose a b (not b)
unfolding choose
agree true true = refl
agree true false = refl
agree false true = refl
agree false false = refl

pub returns : goal.returns
unfolding besides
returns c =
    rw (← is_check_letter c.args.letter, ← is_check_letter c.args.other, ← c.eq.ensures, ← c.eq-2.ensures) (agree c.eq.result c.eq-2.result)
