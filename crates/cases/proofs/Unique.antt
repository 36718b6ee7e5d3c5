-- The contracts of the functions that say what a character or a position means allow one result for the same arguments: stated over the
-- contract itself. The contracts of the others bound what they read and write, and the tables' expected output says the rest.
-- Assumes nothing.
use mathlib.Core.Path.{◌≡◌, sym, ◌∙◌}
use Rattle.cases.proofs.words.digit.Reads as digit
use Rattle.cases.proofs.words.letter_of.Reads as letter_of
use Rattle.cases.proofs.changes.end_of.Reads as end_of

pub digit_unique : (κs : _) (a : _) (r s : _) (x y : _) → digit.Post κs a r x → digit.Post κs a s y → r ≡ s
digit_unique κs a r s x y p q = p.0 ∙ sym q.0

pub letter_of_unique : (κs : _) (a : _) (r s : _) (x y : _) → letter_of.Post κs a r x → letter_of.Post κs a s y → r ≡ s
letter_of_unique κs a r s x y p q = p ∙ sym q

pub end_of_unique : (κs : _) (a : _) (r s : _) (x y : _) → end_of.Post κs a r x → end_of.Post κs a s y → r ≡ s
end_of_unique κs a r s x y p q = p ∙ sym q
