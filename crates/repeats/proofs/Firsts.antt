-- The first repeat: what is left decides.
-- Assumes nothing.
use Rattle.std.specs.Prelude.{Option, Some, None}
use mathlib.Core.Path.{◌≡◌, sym, ◌∙◌}
use mathlib.Core.Bool.{true, false}
use mathlib.Core.List.{List, [], ◌∷◌}
use Prim.Native.Nat.{ℕ, suc, ◌+◌, ◌-◌, ◌/◌, ◌≤◌, ◌<◌}
use native.Mathlib.Omega.{arith}
use lib.ListN.{length}
use Rattle.record.specs.Choice.{choose}
use Rattle.nesting.specs.Records.{cut, record_at}
use Rattle.nesting.proofs.Cuts.{onward, cut_onward, cut_snoc}
use Rattle.repeats.specs.declared.Sort.TheVariants.{Payments}
use Rattle.repeats.specs.Repeats.{repeats, first_repeat}

module _ (first : ℕ) (xs : List ℕ) where
  -- the answer that is looked for
  abbrev pub wanted_repeat : Option ℕ
  wanted_repeat = first_repeat Payments first [] (cut first (length xs / 850) xs)

  -- the records from the place on decide
  unfoldable pub Seeking : ℕ → Type 0
  Seeking place = wanted_repeat ≡ first_repeat Payments (first + place) (cut first place xs) (onward first place (length xs / 850 - place) xs)

  pub seeking_none : Seeking 0
  unfolding Seeking cut
  seeking_none =
      let e : length xs / 850 - 0 ≡ length xs / 850 = omega arith in
      let f : first + 0 ≡ first = omega arith in
      rw (e, f)

  module _ (place count : ℕ) (m : count ≡ length xs / 850) where
    module _ (h : place < count) (s : Seeking place) where
      opened : onward first place (length xs / 850 - place) xs ≡ record_at first place xs ∷ onward first (place + 1) (length xs / 850 - (place + 1)) xs
      opened =
          let e : length xs / 850 - place ≡ suc (length xs / 850 - (place + 1)) = omega arith in
          rw e (cut_onward first place (length xs / 850 - (place + 1)) xs)

      pub seeking_stop : repeats Payments (cut first place xs) (record_at first place xs) ≡ true → Some (first + place) ≡ wanted_repeat
      unfolding Seeking first_repeat choose
      seeking_stop t = sym (s ∙ rw (opened, t))

      pub seeking_next : repeats Payments (cut first place xs) (record_at first place xs) ≡ false → Seeking (place + 1)
      unfolding Seeking first_repeat choose
      seeking_next t =
          let e : first + place + 1 ≡ first + (place + 1) = omega arith in
          s ∙ rw (opened, t, cut_snoc first place xs, e)

    pub seeking_end : count ≤ place → Seeking place → None ≡ wanted_repeat
    unfolding Seeking first_repeat cut
    seeking_end h s =
        let e : length xs / 850 - place ≡ 0 = omega arith in
        sym (s ∙ rw e)
