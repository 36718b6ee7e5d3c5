-- A row's numbers, written one after the other, and the row at its place.
-- Assumes nothing.
use mathlib.Core.Path.{◌≡◌}
use mathlib.Core.List.{List, []}
use Prim.Native.Nat.{ℕ, suc, ◌+◌, ◌-◌, ◌*◌, ◌<◌, ◌≤◌}
use native.Mathlib.Numerals.{add-one}
use native.Mathlib.Omega.{arith}
use lib.ListN.{length, take, drop, get_or, length-take, length-drop, drop_of_length-le}
use lib.Seq.{drop-cons}
use borrow.Rule.Slice.PartMut.{put_mid, Post-is}
use Rattle.numbers.specs.Numbers.{little}
use Rattle.numbers.proofs.Laws.{little_length}
use Rattle.numbers.proofs.Writing.{Written, written_all, written_more}
use Rattle.report.specs.Rows.{row_bytes, over}
use Rattle.report.proofs.Rows.{row_length}

-- a number more of a row
pub number_next : (part whole row bytes : List ℕ) (k : ℕ) → length part ≡ 64 → length row ≡ 8 → k < 8 → Written part (k * 8) (row_bytes (drop k row)) whole
    → bytes ≡ little (length (take (k * 8 + 8 - k * 8) (drop (k * 8) part))) (get_or row k 0)
    → Written (put_mid (k * 8) (k * 8 + 8 - k * 8) part bytes) ((k + 1) * 8) (row_bytes (drop (k + 1) row)) whole
unfolding row_bytes
number_next part whole row bytes k l r h w e =
    let n : length (take (k * 8 + 8 - k * 8) (drop (k * 8) part)) ≡ 8 = simp (length-take, length-drop) (omega arith) in
    let b : bytes ≡ little 8 (get_or row k 0) = rw n at e in
    rw (b, add-one)
    (written_more part whole (little 8 (get_or row k 0)) (row_bytes (drop (suc k) row)) _ (k * 8) (suc k * 8) (omega arith)
    (omega (arith, little_length 8 (get_or row k 0))) (rw (drop-cons row k 0 (omega arith)) at w))

pub numbers_all : (part whole row : List ℕ) (k : ℕ) → length part ≡ 64 → length row ≡ 8 → 8 ≤ k → Written part (k * 8) (row_bytes (drop k row)) whole → part ≡ whole
unfolding row_bytes
numbers_all part whole row k l r h w =
    let e : drop k row ≡ [] = drop_of_length-le row {i = k} (omega arith) in
    written_all part whole (k * 8) (omega arith) (rw e at w)

-- the report, once the row's part is back
pub row_is : (report bytes row : List ℕ) (at : ℕ) → length row ≡ 8 → bytes ≡ row_bytes row → put_mid at (at + 64 - at) report bytes ≡ over report at (row_bytes row)
unfolding over
row_is report bytes row at h e = rw (e, Post-is at (at + 64) report (omega arith), row_length row h)
