-- The bytes of a report that has its head and its first rows.
-- Assumes nothing.
use mathlib.Core.Path.{◌≡◌, ◌∙◌}
use mathlib.Core.List.{List, [], ◌∷◌, ◌++◌, append_assoc}
use Prim.Native.Nat.{ℕ, ◌+◌}
use native.Mathlib.Omega.{arith}
use lib.ListN.{length, drop, length-append}
use Rattle.report.specs.Rows.{row_bytes, rows_bytes, row_at, room_for, over}
use Rattle.report.proofs.Rows.{Eights, head_length, room_end, over_more}
use Rattle.rows.specs.Report.{reported}

-- a report with the head, and then with the rows, is the report of both
pub reported_is : (before head : List ℕ) (rows : List (List ℕ)) → length head ≡ 8 → Eights rows
    → over (over before 0 (row_bytes head)) (row_at 0) (rows_bytes rows) ≡ reported before head rows
unfolding reported over
reported_is before head rows h hs =
    let z : 0 + length (row_bytes head) ≡ row_at 0 = omega (arith, head_length head h) in
    let e : 0 + length (row_bytes head ++ rows_bytes rows) ≡ room_for (length rows) = rw length-append (omega (arith, z, room_end rows hs)) in
    let one : over (over before 0 (row_bytes head)) (row_at 0) (rows_bytes rows) ≡ over before 0 (row_bytes head ++ rows_bytes rows) =
    rw (← z) (over_more before 0 (row_bytes head) (rows_bytes rows) (omega arith)) in
    one ∙ rw (e, append_assoc (row_bytes head) (rows_bytes rows) (drop (room_for (length rows)) before))

-- of eight numbers each
pub eights_next : (rows : List (List ℕ)) (row : List ℕ) → Eights rows → length row ≡ 8 → Eights (rows ++ row ∷ [])
eights_next [] row hs h = (h, tt)
eights_next (x ∷ rows) row hs h = (hs.0, eights_next rows row hs.1 h)
