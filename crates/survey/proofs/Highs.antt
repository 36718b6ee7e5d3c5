-- Bytes of which none is low, up to a place: what they say of the record at hand, and of those behind it.
-- Assumes nothing.
use mathlib.Core.Path.{◌≡◌, sym, ◌∙◌, ap}
use mathlib.Core.Bool.{Bool, true}
use mathlib.Core.List.{List}
use Prim.Native.Nat.{ℕ, ◌+◌, ◌-◌, ◌≤◌}
use native.Mathlib.Omega.{arith}
use lib.ListN.{take, drop}
use lib.Seq.{slice, slice_empty, take-take, drop-drop}
use Rattle.page.specs.CodePage.{shown}
use Rattle.page.proofs.Shown.{shown_take, shown_drop}
use Rattle.record.specs.Fields.{fixed}
use Rattle.record.specs.Value.{written}
use Rattle.record.specs.Tests.{every, valid}
use Rattle.record.proofs.Every.{slice_from, every_take, every_drop}
use Rattle.nesting.proofs.Cuts.{record_from, from_seen}
use Rattle.survey.specs.Pass.{High}

pub high_none : (bytes : List ℕ) (at : ℕ) → High bytes at at
unfolding High valid every
high_none bytes at = rw (slice_empty at bytes)

pub high_next : (bytes : List ℕ) (at to : ℕ) → High bytes at to → High bytes (at + 850) to
unfolding High valid
high_next bytes at to h = rw (← drop-drop 850 at (take to bytes)) (every_drop _ 850 (slice at to bytes) h)

module _ (ascii : Bool) (sent : List ℕ) (at : ℕ) where
  abbrev f : List ℕ
  f = shown ascii sent

  -- eight records that were looked at as one field
  pub high_eight : (v : Bool) → v ≡ valid (written (shown ascii (take (at + 6800 - at) (drop at sent))) (fixed 1 6800)) → v ≡ true → High f at (at + 6800)
  unfolding High written
  high_eight v e h =
      let n : at + 6800 - at ≡ 6800 = omega arith in
      let s : take 6800 (shown ascii (take 6800 (drop at sent))) ≡ take 6800 (drop at f) =
      rw (shown_take ascii 6800 (drop at sent), shown_drop ascii at sent) (take-take 6800 6800 (drop at f) (omega arith)) in
      rw (slice_from at (at + 6800) f, n, ← s) (sym (rw n at e) ∙ h)

  -- a record before the place
  pub high_record : (to : ℕ) → High f at to → at + 850 ≤ to → valid (record_from ascii sent at) ≡ true
  unfolding High valid shown
  high_record to h w =
      let s : take 850 (slice at to f) ≡ take 850 (drop at f) = ap (take 850) (slice_from at to f) ∙ take-take 850 (to - at) (drop at f) (omega arith) in
      rw (from_seen ascii sent 1 at, ← s) (every_take _ 850 (slice at to f) h)
