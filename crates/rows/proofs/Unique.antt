-- Each public function's contract allows one report for the same arguments: stated over the contract itself.
-- Assumes nothing.
use mathlib.Core.Path.{◌≡◌, sym, ◌∙◌}
use Rattle.rows.proofs.write_rows.Reads as write-rows

-- a file that nests has a division, and the report is the division's; behind eight arguments, `.0` is the report afterwards
pub write_rows_unique : (κs : _) (a : _) (r s : _) (x y : _) → write-rows.Pre κs a → write-rows.Post κs a r x → write-rows.Post κs a s y
    → x.1.1.1.1.1.1.1.1.0.now ≡ y.1.1.1.1.1.1.1.1.0.now
write_rows_unique κs a r s x y w p q = let d = w.1 in p d.division d.divided ∙ sym (q d.division d.divided)
