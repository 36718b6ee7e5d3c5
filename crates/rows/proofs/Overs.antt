-- Bytes written over a part of a report: what stands before them, at them and behind them.
-- Assumes nothing.
use mathlib.Core.Path.{◌≡◌, sym, ap, ◌∙◌}
use mathlib.Core.List.{List, ◌++◌, append_assoc}
use Prim.Native.Nat.{ℕ, ◌+◌, ◌-◌, ◌≤◌}
use native.Mathlib.Omega.{arith}
use lib.ListN.{length, take, drop, length-append}
use lib.Seq.{length-take-le, take-take, take_at, drop_at, drop-drop}
use Rattle.report.specs.Rows.{over}

module _ (before : List ℕ) (at : ℕ) (bytes : List ℕ) (h : at ≤ length before) where
  front : length (take at before) ≡ at
  front = length-take-le at before h

  -- up to where they begin, and up to where they end
  pub take_below : (i : ℕ) → i ≤ at → take i (over before at bytes) ≡ take i before
  unfolding over
  take_below i l =
      sym (take-take i at (over before at bytes) l)
      ∙ ap (take i) (take_at (take at before) (bytes ++ drop (at + length bytes) before) at front) ∙ take-take i at before l

  pub take_through : take (at + length bytes) (over before at bytes) ≡ take at before ++ bytes
  unfolding over
  take_through =
      let n : length (take at before ++ bytes) ≡ at + length bytes = length-append (take at before) bytes ∙ omega (arith, front) in
      ap (take (at + length bytes)) (sym (append_assoc (take at before) bytes (drop (at + length bytes) before)))
      ∙ take_at (take at before ++ bytes) (drop (at + length bytes) before) (at + length bytes) n

  -- from where they begin, and from where they end
  pub drop_from : drop at (over before at bytes) ≡ bytes ++ drop (at + length bytes) before
  unfolding over
  drop_from = drop_at (take at before) (bytes ++ drop (at + length bytes) before) at front

  pub drop_above : (j : ℕ) → at + length bytes ≤ j → drop j (over before at bytes) ≡ drop j before
  drop_above j l =
      let k = j - (at + length bytes) in
      let e : at + (length bytes + k) ≡ j = omega arith in
      let f : at + length bytes + k ≡ j = omega arith in
      ap (λ (i : ℕ). drop i (over before at bytes)) (sym e)
      ∙ sym (drop-drop (length bytes + k) at (over before at bytes)) ∙ ap (drop (length bytes + k)) drop_from
      ∙ sym (drop-drop k (length bytes) (bytes ++ drop (at + length bytes) before))
      ∙ ap (drop k) (drop_at bytes (drop (at + length bytes) before) (length bytes) (omega arith))
      ∙ drop-drop k (at + length bytes) before ∙ ap (λ (i : ℕ). drop i before) f
