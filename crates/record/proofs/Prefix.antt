-- The routing prefix, range by range, and the routing number that begins with it.
-- Assumes nothing.
use mathlib.Core.Path.{◌≡◌, refl, sym, ap, ◌∙◌}
use mathlib.Core.Bool.{Bool, true, false}
use mathlib.Core.List.{List}
use Prim.Native.Nat.{ℕ, ◌-◌, ◌≤◌, ◌<◌}
use native.Mathlib.Omega.{arith}
use borrow.Author.Tests.{lt-leb, le-leb, ne_eqb}
use Rattle.record.specs.Choice.{◌and◌, ◌or◌}
use Rattle.record.specs.Tests.{digits}
use Rattle.record.specs.Numeral.{numeral}
use Rattle.record.specs.Routing.{prefix_listed, routing}
use Rattle.record.specs.declared.Field.{Field}
use Rattle.record.specs.Value.{written, held}
use Rattle.record.proofs.Chain.{and_yes}
use Rattle.record.proofs.Every.{digits_part}
use Rattle.record.proofs.Held.{held_digits}
use lib.ListN.{length, take, drop, length-take}
use lib.Seq.{slice, take_all}

module _ (n : ℕ) where
  pub in_first : n < 13 → true ≡ prefix_listed n
  unfolding prefix_listed ◌and◌ ◌or◌
  in_first h = rw (le-leb n 12 (omega arith))

  pub in_second : 21 ≤ n → n < 33 → true ≡ prefix_listed n
  unfolding prefix_listed ◌and◌ ◌or◌
  in_second h k = simp (lt-leb n 12 (omega arith), le-leb 21 n h, le-leb n 32 (omega arith))

  pub in_third : 61 ≤ n → n < 73 → true ≡ prefix_listed n
  unfolding prefix_listed ◌and◌ ◌or◌
  in_third h k = simp (lt-leb n 12 (omega arith), le-leb 21 n (omega arith), lt-leb n 32 (omega arith), le-leb 61 n h, le-leb n 72 (omega arith))

  pub is_eighty : n ≡ 80 → true ≡ prefix_listed n
  unfolding prefix_listed ◌and◌ ◌or◌
  is_eighty e = rw e

  pub gap_first : 13 ≤ n → n < 21 → false ≡ prefix_listed n
  unfolding prefix_listed ◌and◌ ◌or◌
  gap_first h k = simp (lt-leb n 12 (omega arith), lt-leb 21 n k, lt-leb 61 n (omega arith), ne_eqb n 80 (omega arith))

  pub gap_second : 33 ≤ n → n < 61 → false ≡ prefix_listed n
  unfolding prefix_listed ◌and◌ ◌or◌
  gap_second h k = simp (lt-leb n 12 (omega arith), le-leb 21 n (omega arith), lt-leb n 32 (omega arith), lt-leb 61 n k, ne_eqb n 80 (omega arith))

  pub gap_third : 73 ≤ n → (n ≡ 80 → ⊥) → false ≡ prefix_listed n
  unfolding prefix_listed ◌and◌ ◌or◌
  gap_third h k =
      simp
      (lt-leb n 12 (omega arith), le-leb 21 n (omega arith), lt-leb n 32 (omega arith), le-leb 61 n (omega arith), lt-leb n 72 (omega arith), ne_eqb n 80 k)

-- a field of digits, of which the first two were read
pub routing_read : (xs : List ℕ) (r t : Bool) (n : ℕ) → r ≡ digits xs → r ≡ true → n ≡ numeral (take 2 xs) → t ≡ prefix_listed n → t ≡ routing xs
unfolding routing
routing_read xs r t n e h k l = and_yes _ _ _ (sym e ∙ h) (l ∙ ap prefix_listed k)

-- nine bytes that are digits stand where they belong
module _ (rec : List ℕ) (f : Field) (r : Bool) (w : f.width ≡ 9) (e : r ≡ digits (slice 0 9 (written rec f))) (h : r ≡ true) where
  all_nine : digits (written rec f) ≡ true
  unfolding written
  all_nine =
      let n : length (take f.width (drop (f.start - 1) rec)) ≤ 9 = omega (arith, length-take f.width (drop (f.start - 1) rec)) in
      sym (ap digits (take_all 9 (take f.width (drop (f.start - 1) rec)) n)) ∙ sym e ∙ h

  pub nine_prefix : digits (slice 0 2 (written rec f)) ≡ true
  nine_prefix = digits_part 0 2 (written rec f) true (sym all_nine) refl

  pub nine_stand : (t : Bool) (n : ℕ) → n ≡ numeral (slice 0 2 (written rec f)) → t ≡ prefix_listed n → t ≡ routing (held rec f)
  nine_stand t n k l =
      let d : held rec f ≡ written rec f = held_digits rec f all_nine in
      routing_read (held rec f) true t n (sym (ap digits d ∙ all_nine)) refl (k ∙ ap (λ (xs : List ℕ). numeral (take 2 xs)) (sym d)) l
