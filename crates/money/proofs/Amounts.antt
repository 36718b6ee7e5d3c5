-- Amounts: what two words are worth, carries, comparison, and the amount that twenty digits write.
-- Assumes nothing.
use mathlib.Core.Path.{◌≡◌, refl, sym, ap, ◌∙◌}
use mathlib.Core.Bool.{Bool, true, false, not, ◌&&◌}
use mathlib.Core.List.{List, [], ◌∷◌}
use Prim.Native.Nat.{ℕ, ◌+◌, ◌-◌, ◌*◌, ◌≤◌, ◌<◌}
use native.Mathlib.Nat.{pow-le-pow_right, lt_of_lt_of_le}
use native.Mathlib.Omega.{arith}
use lib.Dec.{eqb, ltb}
use borrow.Author.Tests.{not-false, eq-eqb, ne_eqb, eqb-true, eqb-false, lt-ltb, le-ltb}
use lib.ListN.{length, take, drop, length-drop, take-append-drop}
use lib.Seq.{slice, take_all, take-take}
use Rattle.record.specs.declared.Field.{Field}
use Rattle.record.specs.declared.Justification.TheVariants.{Fixed}
use Rattle.record.specs.Choice.{◌and◌, choose}
use Rattle.record.specs.Correction.{corrected}
use Rattle.page.specs.CodePage.{shown}
use Rattle.record.specs.Value.{Has, written, held}
use Rattle.record.specs.Tests.{every, only, zeros, digit, digits}
use Rattle.record.specs.Numeral.{numeral, numeral_from}
use Rattle.record.proofs.Chain.{and_left, and_right}
use Rattle.record.proofs.Held.{written_length, held_length, held_digits}
use Rattle.record.proofs.Every.{digits_part, digits_halves}
use Rattle.std.specs.Ordering.{nat_cmp, is_gt, is_some_and, partial_ordering_then}
use Rattle.std.specs.Prelude.{Some}
use Rattle.record.proofs.Orders.{Side, less, more, same, side}
use Rattle.record.proofs.Numbers.{numeral_append, numeral_below}
use Rattle.money.specs.declared.Amount.{Amount}
use Rattle.money.specs.declared.Signed.{Signed}
use Rattle.money.specs.Money.{worth, split, cents, Whole, Fit, entered, comes_to}

pub amount_equal : (a b : Amount) → a.high ≡ b.high → a.low ≡ b.low → a ≡ b
amount_equal a b p q = λ i. record { high = p i; low = q i }

pub worth_split : (n : ℕ) → worth (split n) ≡ n
unfolding worth split
worth_split n = omega arith

pub split_whole : (n : ℕ) → Whole (split n)
unfolding Whole split
split_whole n = omega arith

pub whole_of : (a : Amount) (n : ℕ) → a ≡ split n → Whole a
whole_of a n e = rw e (split_whole n)

-- an amount that is written as document 01 writes it is the one of its worth
pub whole_split : (a : Amount) → Whole a → a ≡ split (worth a)
unfolding Whole split worth
whole_split a h = amount_equal _ _ (omega arith) (omega arith)

-- sums
module _ (a b : Amount) (f : Fit a b) where
  pub high_room : a.high + b.high < 1000000000000000
  unfolding worth
  high_room = omega (arith, f.room)

  pub low_room : a.low + b.low < 20000000000
  unfolding Whole
  low_room = omega (arith, f.left, f.right)

  pub plus_plain : a.low + b.low < 10000000000 → record { high = a.high + b.high; low = a.low + b.low } ≡ split (worth a + worth b)
  unfolding split worth
  plus_plain h = amount_equal _ _ (omega arith) (omega arith)

  pub plus_carry : 10000000000 ≤ a.low + b.low
      → record { high = a.high + b.high + 1; low = a.low + b.low - 10000000000 } ≡ split (worth a + worth b)
  unfolding split worth Whole
  plus_carry h = amount_equal _ _ (omega (arith, f.left, f.right)) (omega (arith, f.left, f.right))

-- comparison: the high parts decide, and where they are the same the low ones
module _ (a b : Amount) (u : Whole a) (v : Whole b) (r : Bool) where
  pub equal_told : r ≡ (eqb a.high b.high && eqb a.low b.low) → r ≡ eqb (worth a) (worth b)
  unfolding worth Whole
  equal_told e = e ∙ go (eqb a.high b.high) refl (eqb a.low b.low) refl
    where
      go : (s : Bool) → eqb a.high b.high ≡ s → (t : Bool) → eqb a.low b.low ≡ t → (eqb a.high b.high && eqb a.low b.low) ≡ eqb (worth a) (worth b)
      go true p true q = rw (p, q) (sym (eq-eqb (worth a) (worth b) (omega (arith, eqb-true a.high b.high p, eqb-true a.low b.low q))))
      go true p false q = rw (p, q) (sym (ne_eqb (worth a) (worth b) (λ (w : worth a ≡ worth b). eqb-false a.low b.low q (omega (arith, eqb-true a.high b.high p, w)))))
      go false p t q = rw p (sym (ne_eqb (worth a) (worth b) (λ (w : worth a ≡ worth b). eqb-false a.high b.high p (omega (arith, u, v, w)))))

  pub above_told : r ≡ is_some_and is_gt (partial_ordering_then (Some (nat_cmp a.high b.high)) (Some (nat_cmp a.low b.low))) → r ≡ ltb (worth b) (worth a)
  unfolding worth Whole
  above_told e = e ∙ high (side a.high b.high)
    where
      low : a.high ≡ b.high → Side a.low b.low → is_gt (nat_cmp a.low b.low) ≡ ltb (worth b) (worth a)
      low h (less k) = rw (lt-ltb a.low b.low k) (sym (le-ltb (worth b) (worth a) (omega (arith, h))))
      low h (more k) = rw (le-ltb a.low b.low (omega arith), ne_eqb a.low b.low (λ q. absurd (omega (arith, q)))) (sym (lt-ltb (worth b) (worth a) (omega (arith, h))))
      low h (same k j) = rw (le-ltb a.low b.low j, eq-eqb a.low b.low (omega arith)) (sym (le-ltb (worth b) (worth a) (omega (arith, h))))

      high : Side a.high b.high → is_some_and is_gt (partial_ordering_then (Some (nat_cmp a.high b.high)) (Some (nat_cmp a.low b.low))) ≡ ltb (worth b) (worth a)
      high (less k) = rw (lt-ltb a.high b.high k) (sym (le-ltb (worth b) (worth a) (omega (arith, u, v))))
      high (more k) = rw (le-ltb a.high b.high (omega arith), ne_eqb a.high b.high (λ q. absurd (omega (arith, q)))) (sym (lt-ltb (worth b) (worth a) (omega (arith, u, v))))
      high (same k j) = rw (le-ltb a.high b.high j, eq-eqb a.high b.high (omega arith)) (low (omega arith) (side a.low b.low))

-- twenty digits, read as two numbers of ten
halves : (xs : List ℕ) → length xs ≡ 20 → digits xs ≡ true
    → (numeral xs ≡ numeral (slice 0 10 xs) * 10000000000 + numeral (slice 10 20 xs)) × (numeral (slice 10 20 xs) < 10000000000)
halves xs n d =
    let t : take 20 xs ≡ xs = take_all 20 xs (omega arith) in
    let k : length (drop 10 xs) ≡ 10 = simp length-drop (omega arith) in
    let a = numeral_append (take 10 xs) (drop 10 xs) in
    let l = numeral_below (slice 10 20 xs) (digits_part 10 20 xs true (sym d) refl) in
    rw t (omega (arith, rw (take-append-drop, k) at a, rw (t, k) at l))

amount_of : (xs : List ℕ) (h l : ℕ) → length xs ≡ 20 → digits xs ≡ true → h ≡ numeral (slice 0 10 xs) → l ≡ numeral (slice 10 20 xs) → record { high = h; low = l } ≡ split (cents xs)
unfolding cents split choose
amount_of xs h l n d a b =
    let s = halves xs n d in
    rw d (amount_equal _ _ (omega (arith, a, b, s)) (omega (arith, a, b, s)))

-- a field of twenty digits, as it holds them
module _ (ascii : Bool) (rec : List ℕ) (f : Field) (p : Has rec f) (w : f.width ≡ 20) where
  module _ (r : Bool) (e : r ≡ digits (held (shown ascii rec) f)) where
    pub amount_read : (h l : ℕ) → r ≡ true → h ≡ numeral (slice 0 10 (held (shown ascii rec) f)) → l ≡ numeral (slice 10 20 (held (shown ascii rec) f))
        → record { high = h; low = l } ≡ split (cents (held (shown ascii rec) f))
    amount_read h l t a b = amount_of (held (shown ascii rec) f) h l (held_length ascii rec f p ∙ w) (sym e ∙ t) a b

    pub amount_none : r ≡ false → record { high = 0; low = 0 } ≡ split (cents (held (shown ascii rec) f))
    unfolding cents split choose
    amount_none t = rw (sym e ∙ t)

  -- and as it stands: both halves are digits
  module _ (r s : Bool) (u : r ≡ digits (slice 0 10 (written (shown ascii rec) f))) (v : s ≡ digits (slice 10 20 (written (shown ascii rec) f))) (q : not r ≡ false) (t : not s ≡ false) where
    twenty : length (written (shown ascii rec) f) ≡ 20
    twenty = written_length ascii rec f p ∙ w

    all_digits : digits (written (shown ascii rec) f) ≡ true
    all_digits =
        let n : take 20 (written (shown ascii rec) f) ≡ written (shown ascii rec) f = take_all 20 (written (shown ascii rec) f) (omega (arith, twenty)) in
        digits_halves (written (shown ascii rec) f) (sym u ∙ not-false r q) (ap (λ (xs : List ℕ). digits (drop 10 xs)) (sym n) ∙ sym v ∙ not-false s t)

    pub amount_stands : (h l : ℕ) → h ≡ numeral (slice 0 10 (written (shown ascii rec) f)) → l ≡ numeral (slice 10 20 (written (shown ascii rec) f))
        → record { high = h; low = l } ≡ split (cents (held (shown ascii rec) f))
    amount_stands h l a b = amount_of (written (shown ascii rec) f) h l twenty all_digits a b ∙ ap (λ (xs : List ℕ). split (cents xs)) (sym (held_digits (shown ascii rec) f all_digits))

-- zeros are digits, and count nothing
zeros_digits : (xs : List ℕ) → zeros xs ≡ true → digits xs ≡ true
unfolding only every digit digits ◌and◌
zeros_digits [] e = refl
zeros_digits (x ∷ xs) e =
    let q : x ≡ 0xF0 = eqb-true x 0xF0 (and_left (eqb x 0xF0) (zeros xs) e) in
    rw (ap digit q) (zeros_digits xs (and_right (eqb x 0xF0) (zeros xs) e))

zeros_count : (xs : List ℕ) → zeros xs ≡ true → numeral xs ≡ 0
unfolding only every numeral numeral_from
zeros_count [] e = refl
zeros_count (x ∷ xs) e =
    let q : x ≡ 0xF0 = eqb-true x 0xF0 (and_left (eqb x 0xF0) (zeros xs) e) in
    rw q (zeros_count xs (and_right (eqb x 0xF0) (zeros xs) e))

-- an amount with zeros in its upper half
module _ (ascii : Bool) (rec : List ℕ) (f : Field) (p : Has rec f) (w : f.width ≡ 20) (r s : Bool) (u : r ≡ zeros (held (shown ascii rec) (record { start = f.start; width = 10; justification = Fixed }))) (v : s ≡ digits (slice 10 20 (written (shown ascii rec) f))) (q : r ≡ true) (t : s ≡ true) where
  upper : zeros (slice 0 10 (written (shown ascii rec) f)) ≡ true
  unfolding held written corrected
  upper =
      let k : 10 ≤ f.width = omega arith in
      ap zeros (take-take 10 f.width (drop (f.start - 1) (shown ascii rec)) k) ∙ sym u ∙ q

  pub amount_low : (l : ℕ) → l ≡ numeral (slice 10 20 (written (shown ascii rec) f)) → record { high = 0; low = l } ≡ split (cents (held (shown ascii rec) f))
  amount_low l e =
      amount_stands ascii rec f p w true s (sym (zeros_digits (slice 0 10 (written (shown ascii rec) f)) upper)) v refl (rw t)
      0 l (sym (zeros_count (slice 0 10 (written (shown ascii rec) f)) upper)) e

-- cents of a field of twenty bytes have twenty digits
pub cents_below : (xs : List ℕ) → length xs ≤ 20 → cents xs < 100000000000000000000
unfolding cents choose
cents_below xs n = go (digits xs) refl
  where
    go : (b : Bool) → digits xs ≡ b → choose (digits xs) (numeral xs) 0 < 100000000000000000000
    go true e = rw e (lt_of_lt_of_le (numeral_below xs e) (omega (arith, pow-le-pow_right {n = 10} (omega arith) n)))
    go false e = rw e (omega arith)

-- signed sums
module _ (s : Signed) (a r : Amount) where
  pub entered_negative : (b : Bool) → b ≡ true → r ≡ split (worth s.negative + worth a) → record { positive = s.positive; negative = r } ≡ entered s b (worth a)
  unfolding entered
  entered_negative b e h = rw (e, h)

  pub entered_positive : (b : Bool) → b ≡ false → r ≡ split (worth s.positive + worth a) → record { positive = r; negative = s.negative } ≡ entered s b (worth a)
  unfolding entered
  entered_positive b e h = rw (e, h)

  pub came_to : (t : Bool) → r ≡ split (worth a + worth s.negative) → t ≡ eqb (worth s.positive) (worth r) → t ≡ comes_to s (worth a)
  unfolding comes_to
  came_to t h e = e ∙ ap (eqb (worth s.positive)) (ap worth h ∙ worth_split (worth a + worth s.negative))
