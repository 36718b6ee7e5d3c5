use Prim.Native.Nat.{◌*◌}
use mathlib.Core.Path.{◌≡◌}
use lib.ListN.{length, drop}
use Rattle.report.specs.Rows.{row_bytes}
use Rattle.numbers.proofs.Writing.{Written}
use Rattle.report.proofs.write_numbers.Given as goal

abbrev pub invariant-loop-k : goal.invariant-loop-k
invariant-loop-k l = (length l.part ≡ 64) × Written l.part (l.k * 8) (row_bytes (drop l.k l.fn.row)) (row_bytes l.fn.row)
