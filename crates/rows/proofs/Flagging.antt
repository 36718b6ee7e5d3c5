-- The flags of the batches to come: where they stand in the report, and that no row reaches those behind its own.
-- Assumes nothing.
use mathlib.Core.Path.{◌≡◌, refl, sym, ap, ◌∙◌}
use mathlib.Core.Bool.{Bool}
use mathlib.Core.List.{List, [], ◌∷◌, ◌++◌}
use Prim.Native.Nat.{ℕ, ◌+◌, ◌-◌, ◌<◌, ◌≤◌}
use native.Mathlib.Omega.{arith}
use lib.ListN.{length, take, drop, length-take, length-drop}
use lib.Seq.{take_at, drop-drop}
use borrow.Rule.Slice.PartMut.{put_mid, Post-is}
use Rattle.report.specs.Rows.{row_at, room_for, over}
use Rattle.repeats.specs.Schedules.{Noted, numbers_before, numbers_from, Batched, flagged}
use Rattle.repeats.proofs.Schedules.{flagged_length}
use Rattle.rows.specs.Standing.{flags_at, flags_in, Numberable}
use Rattle.rows.proofs.Overs.{take_below, drop_from, drop_above}

-- where they begin: behind the rows that are written
pub flags_end : (batches written : ℕ) → written < batches → flags_at batches written + (batches - written) ≡ room_for batches
unfolding flags_at room_for row_at
flags_end batches written h = omega arith

pub flags_behind : (batches written : ℕ) → written ≤ batches → row_at written ≤ flags_at batches written
unfolding flags_at room_for row_at
flags_behind batches written h = omega arith

flags_next : (batches written : ℕ) → written < batches → flags_at batches (written + 1) ≡ flags_at batches written + 1
unfolding flags_at room_for row_at
flags_next batches written h = omega arith

pub row_next : (written : ℕ) → row_at (written + 1) ≡ row_at written + 64
unfolding row_at
row_next written = omega arith

pub flags_length : (batches written : ℕ) (report : List ℕ) → written < batches → room_for batches ≤ length report → length (flags_in batches written report) ≡ batches - written
unfolding flags_in
flags_length batches written report h r = simp (length-take, length-drop) (omega (arith, flags_end batches written h))

-- the part of the report that the code takes
module _ (batches written end : ℕ) (report : List ℕ) (h : written < batches) (e : end ≡ room_for batches) where
  from_is : end - (batches - written) ≡ flags_at batches written
  unfolding flags_at
  from_is = rw e

  left_fits : batches - written ≤ end
  left_fits = rw e (omega (arith, flags_end batches written h))

  part_is : take (end - (end - (batches - written))) (drop (end - (batches - written)) report) ≡ flags_in batches written report
  unfolding flags_in
  part_is =
      let k : end - (end - (batches - written)) ≡ batches - written = omega (arith, left_fits) in
      rw (k, from_is)

  -- the report, once that part is back
  back : (part : List ℕ) → length part ≡ batches - written → end ≤ length report
      → put_mid (end - (batches - written)) (end - (end - (batches - written))) report part ≡ over report (flags_at batches written) part
  unfolding over
  back part l r =
      let k : end - (batches - written) ≤ end = omega arith in
      let f : flags_at batches written + length part ≡ end = rw l (flags_end batches written h ∙ sym e) in
      rw (Post-is (end - (batches - written)) end report k, from_is, f)

-- what `number_next` needs and gives
module _ (file : List ℕ) (place : ℕ) (greatest : List ℕ) (marked : Bool) (batches written : ℕ) (report : List ℕ) (n : Numberable file place greatest marked batches written report) where
  pub flagged_fits : length (flagged file place greatest marked (flags_in batches written report)) ≡ batches - written
  flagged_fits = flagged_length file place n.batched greatest marked ∙ flags_length batches written report n.left n.room

  module _ (end : ℕ) (e : end ≡ room_for batches) where
    abbrev part : List ℕ
    part = take (end - (end - (batches - written))) (drop (end - (batches - written)) report)

    pub left_room : batches - written ≤ end
    left_room = left_fits batches written end report n.left e

    end_fits : end ≤ length report
    end_fits = rw e n.room

    pub part_batched : Batched file place part
    part_batched = rw (part_is batches written end report n.left e) n.batched

    pub part_noted : Noted (numbers_before file place) (numbers_from file place) greatest marked part
    part_noted = rw (part_is batches written end report n.left e) n.noted

    pub part_back : (after : List ℕ) → after ≡ flagged file place greatest marked part
        → put_mid (end - (batches - written)) (end - (end - (batches - written))) report after
        ≡ over report (flags_at batches written) (flagged file place greatest marked (flags_in batches written report))
    part_back after q =
        let k : after ≡ flagged file place greatest marked (flags_in batches written report) =
        q ∙ ap (flagged file place greatest marked) (part_is batches written end report n.left e) in
        rw (← k) (back batches written end report n.left e after (rw k flagged_fits) end_fits)

-- the flags, then a row
module _ (batches written : ℕ) (report flags row : List ℕ) (h : written < batches) (r : room_for batches ≤ length report) (l : length flags ≡ batches - written) (k : length row ≡ 64) where
  abbrev marked : List ℕ
  marked = over report (flags_at batches written) flags

  abbrev rowed : List ℕ
  rowed = over marked (row_at written) row

  inside : flags_at batches written ≤ length report
  inside = omega (arith, flags_end batches written h)

  long : row_at written ≤ length marked → row_at written + length row ≤ flags_at batches (written + 1)
  long z = rw k (omega (arith, flags_behind batches (written + 1) (omega arith), row_next written))

  module _ (z : row_at written ≤ length marked) where
    -- the rows before it stay
    pub rows_stay : take (row_at written) marked ≡ take (row_at written) report
    rows_stay = take_below report (flags_at batches written) flags inside (row_at written) (flags_behind batches written (omega arith))

    -- nothing behind the last row is touched
    pub rest_stays : drop (room_for batches) rowed ≡ drop (room_for batches) report
    rest_stays =
        drop_above marked (row_at written) row z (room_for batches) (omega (arith, long z, flags_next batches written h, flags_end batches written h))
        ∙ drop_above report (flags_at batches written) flags inside (room_for batches) (rw l (omega (arith, flags_end batches written h)))

    -- the flags behind its own stay
    pub flags_stay : flags_in batches (written + 1) rowed ≡ drop 1 flags
    unfolding flags_in
    flags_stay =
        let a = flags_at batches written in
        let e : batches - (written + 1) ≡ length (drop 1 flags) = rw length-drop (omega (arith, l)) in
        let one : drop (flags_at batches (written + 1)) rowed ≡ drop (flags_at batches (written + 1)) marked =
        drop_above marked (row_at written) row z (flags_at batches (written + 1)) (long z) in
        let two : drop (a + 1) marked ≡ drop 1 (flags ++ drop (a + length flags) report) =
        sym (drop-drop 1 a marked) ∙ ap (drop 1) (drop_from report a flags inside) in
        rw one (rw (flags_next batches written h, two, e) (first_of flags (drop (a + length flags) report) (omega (arith, l))))
      where
        first_of : (xs ys : List ℕ) → 1 ≤ length xs → take (length (drop 1 xs)) (drop 1 (xs ++ ys)) ≡ drop 1 xs
        first_of [] ys q = absurd (omega arith)
        first_of (x ∷ xs) ys q = take_at xs ys (length xs) refl
