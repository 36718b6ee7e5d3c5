-- What the tests of a field say, as a search uses them.
-- Assumes nothing.
use mathlib.Core.Path.{◌≡◌, refl, sym, ap, ◌∙◌}
use mathlib.Core.Bool.{Bool, true, false, true≢false}
use mathlib.Core.List.{List, [], ◌∷◌, ◌++◌}
use Prim.Native.Nat.{ℕ, ◌+◌, ◌-◌, ◌*◌, ◌<◌, ◌≤◌}
use native.Mathlib.Omega.{arith}
use lib.Dec.{eqb, leb, ltb}
use borrow.Author.Tests.{lt-leb, le-leb, lt-ltb, le-ltb, eqb-true, eqb-false}
use lib.ListN.{length, get_or, take, replicate, get_or-append}
use lib.Pointwise.{pointwise}
use lib.Seq.{take-append_seam, take-append-add, drop-append_seam}
use borrow.Rule.Slice.PartMut.{put_mid}
use Rattle.std.proofs.lemmas.List.{take-replicate}
use Rattle.std.specs.Prelude.{◌&&◌, drop}
use Rattle.std.proofs.lemmas.List.{drop_more, drop_all}
use Rattle.page.specs.CodePage.{shown, twins}
use Rattle.record.specs.declared.Field.{Field}
use Rattle.record.specs.declared.Justification.TheVariants.{Fixed}
use Rattle.record.specs.Choice.{◌and◌, ◌or◌, choose}
use Rattle.record.specs.Tests.{every, only, blank, zeros, digit, digits, alike}
use Rattle.record.specs.Numeral.{numeral, numeral_from}
use Rattle.record.specs.Routing.{routing}
use Rattle.record.specs.Value.{Has, written, held}
use Rattle.record.proofs.Held.{held_length, held_fixed, filled_digits}
use Rattle.calendar.specs.Calendar.{dashed_date, plain_date}
use Rattle.record.proofs.Chain.{and_left, and_right, chain, reads}
use Rattle.record.proofs.Every.{digit_range}
use Rattle.money.specs.declared.Amount.{Amount}
use Rattle.money.specs.Money.{worth, split, cents, Whole}
use Rattle.money.proofs.Amounts.{worth_split, whole_of}
use Rattle.reasons.specs.Lists.{Text, values, are_twins, one_of}
use Rattle.reasons.specs.Reasons.{symbol_and_serial}

-- the value at hand, of those that are left
module _ (ts : List Text) (i : ℕ) (t : Text) (b : i < length ts) (e : t ≡ get_or ts i t) where
  left_is : drop i ts ≡ t ∷ drop (i + 1) ts
  left_is = drop_more ts i t b ∙ ap (λ (x : Text). x ∷ drop (i + 1) ts) (sym e)

  pub twins_here : are_twins (drop i ts) ≡ true → twins t.1 t.0 ≡ true
  twins_here a = go _ _ (ap are_twins (sym left_is) ∙ a)
    where
      go : (a b : Bool) → (a && b) ≡ true → a ≡ true
      go true b h = refl
      go false b h = h

  pub twins_left : are_twins (drop i ts) ≡ true → are_twins (drop (i + 1) ts) ≡ true
  twins_left a = go _ _ (ap are_twins (sym left_is) ∙ a)
    where
      go : (a b : Bool) → (a && b) ≡ true → b ≡ true
      go true b h = h
      go false b h = absurd (true≢false (sym h))

  pub value_here : (v : List ℕ) → alike v t.0 ≡ true → one_of (values (drop i ts)) v ≡ true
  unfolding one_of ◌or◌
  value_here v h = ap (λ (x : List Text). one_of (values x) v) left_is ∙ rw h

  pub value_left : (v : List ℕ) → alike v t.0 ≡ false → one_of (values (drop i ts)) v ≡ one_of (values (drop (i + 1) ts)) v
  unfolding one_of ◌or◌
  value_left v h = ap (λ (x : List Text). one_of (values x) v) left_is ∙ rw h

pub none_left : (ts : List Text) (i : ℕ) (v : List ℕ) → length ts ≤ i → one_of (values (drop i ts)) v ≡ false
unfolding one_of
none_left ts i v h = ap (λ (x : List Text). one_of (values x) v) (drop_all i ts h)

-- a date, as it stands
module _ (rec : List ℕ) (f : Field) (j : f.justification ≡ Fixed) (r u : Bool) (t : r ≡ u) where
  pub dashed_told : r ≡ dashed_date (written rec f) → dashed_date (held rec f) ≡ u
  dashed_told e = ap dashed_date (held_fixed rec f j) ∙ sym e ∙ t

  pub plain_told : r ≡ plain_date (written rec f) → plain_date (held rec f) ≡ u
  plain_told e = ap plain_date (held_fixed rec f j) ∙ sym e ∙ t

-- a routing number is digits, and not blank
module _ (ascii : Bool) (rec : List ℕ) (f : Field) (h : Has rec f) (w : f.width ≡ 9) (r : Bool) (e : r ≡ routing (held (shown ascii rec) f)) where
  pub routing_blank : r ≡ true → blank (held (shown ascii rec) f) ≡ false
  unfolding routing
  routing_blank t = filled_digits (held (shown ascii rec) f) (omega (arith, held_length ascii rec f h)) (and_left _ _ (sym e ∙ t))

  pub routing_digits : r ≡ true → digits (held (shown ascii rec) f) ≡ true
  unfolding routing
  routing_digits t = and_left _ _ (sym e ∙ t)

-- an amount beside another
module _ (r u : Bool) (a : Amount) (n : ℕ) (e : a ≡ split n) (t : r ≡ u) where
  worth_is : worth a ≡ n
  worth_is = ap worth e ∙ worth_split n

  pub above : (k : ℕ) → r ≡ ltb (worth (record { high = 0; low = k })) (worth a) → ltb k n ≡ u
  unfolding worth
  above k h =
      let w : worth (record { high = 0; low = k }) ≡ k = omega arith in
      sym (rw (w, worth_is) at h) ∙ t

  pub equals : (s : Amount) → r ≡ eqb (worth a) (worth s) → eqb n (worth s) ≡ u
  equals s h = sym (rw worth_is at h) ∙ t

-- digits write a number above zero unless all of them are zeros
stays_above : (n : ℕ) (xs : List ℕ) → 0 < n → 0 < numeral_from n xs
unfolding numeral_from
stays_above n [] h = h
stays_above n (x ∷ xs) h = stays_above (n * 10 + (x - 0xF0)) xs (omega arith)

zeros_nothing : (xs : List ℕ) → zeros xs ≡ true → numeral_from 0 xs ≡ 0
unfolding numeral_from only every
zeros_nothing [] e = refl
zeros_nothing (x ∷ xs) e =
    let k : 0 * 10 + (x - 0xF0) ≡ 0 = omega (arith, eqb-true x 0xF0 (and_left _ _ e)) in
    rw k (zeros_nothing xs (and_right _ _ e))

rises_above : (xs : List ℕ) → digits xs ≡ true → zeros xs ≡ false → 0 < numeral_from 0 xs
unfolding numeral_from digits only every ◌and◌
rises_above [] d e = absurd (true≢false e)
rises_above (x ∷ xs) d e = go (eqb x 0xF0) refl (rises_above xs (and_right (digit x) (digits xs) d))
  where
    go : (t : Bool) → eqb x 0xF0 ≡ t → (zeros xs ≡ false → 0 < numeral_from 0 xs) → 0 < numeral_from 0 (x ∷ xs)
    go true q rest =
        let k : 0 * 10 + (x - 0xF0) ≡ 0 = omega (arith, eqb-true x 0xF0 q) in
        rw k (rest (rw q at e))
    go false q rest = stays_above (0 * 10 + (x - 0xF0)) xs (omega (arith, eqb-false x 0xF0 q, digit_range x (and_left (digit x) (digits xs) d)))

module _ (v : List ℕ) (d : digits v ≡ true) where
  pub some_cents : zeros v ≡ false → ltb 0 (cents v) ≡ true
  unfolding cents choose numeral
  some_cents e = rw d (lt-ltb 0 (numeral_from 0 v) (rises_above v d e))

  pub no_cents : zeros v ≡ true → ltb 0 (cents v) ≡ false
  unfolding cents choose numeral
  no_cents e = rw d (le-ltb 0 (numeral_from 0 v) (omega (arith, zeros_nothing v e)))

-- nothing, and the most that a check is written for
pub whole_nothing : Whole (record { high = 0; low = 0 })
unfolding Whole
whole_nothing = omega arith

pub whole_limit : Whole (record { high = 0; low = 9999999999 })
unfolding Whole
whole_limit = omega arith

-- a number that was read, in a range or equal to another
module _ (x n : ℕ) (e : x ≡ n) where
  pub range_low : (a b : ℕ) → x < a → (leb a n and leb n b) ≡ false
  unfolding ◌and◌
  range_low a b h = rw (← e, lt-leb a x h)

  pub range_in : (a b : ℕ) → a ≤ x → x ≤ b → (leb a n and leb n b) ≡ true
  unfolding ◌and◌
  range_in a b h k = rw (← e, le-leb a x h, le-leb x b k)

  pub range_high : (a b : ℕ) → a ≤ x → b < x → (leb a n and leb n b) ≡ false
  unfolding ◌and◌
  range_high a b h k = rw (← e, le-leb a x h, lt-leb x b k)

-- a symbol, a serial number and eight blanks, put together in place; and so many of their bytes
module _ (xs ys : List ℕ) (h : length xs ≡ 4) (k : length ys ≡ 8) where
  pub put_together : put_mid 4 8 (xs ++ replicate 16 0x40) ys ≡ symbol_and_serial xs ys 8
  unfolding symbol_and_serial
  put_together =
      let t : take 4 (xs ++ replicate 16 0x40) ≡ xs = ap (λ (n : ℕ). take n (xs ++ replicate 16 0x40)) (sym h) ∙ take-append_seam xs (replicate 16 0x40) in
      let d : drop 4 (xs ++ replicate 16 0x40) ≡ replicate 16 0x40 = ap (λ (n : ℕ). drop n (xs ++ replicate 16 0x40)) (sym h) ∙ drop-append_seam xs (replicate 16 0x40) in
      ap (λ (u : List ℕ). u ++ (ys ++ drop 8 (drop 4 (xs ++ replicate 16 0x40)))) t ∙ ap (λ (u : List ℕ). xs ++ (ys ++ drop 8 u)) d

  pub fewer_blanks : (w : ℕ) → 12 ≤ w → w ≤ 20 → take w (symbol_and_serial xs ys 8) ≡ symbol_and_serial xs ys (w - 12)
  unfolding symbol_and_serial
  fewer_blanks w m n =
      let e : w ≡ length xs + (length ys + (w - 12)) = omega arith in
      ap (λ (i : ℕ). take i (xs ++ (ys ++ replicate 8 0x40))) e
      ∙ take-append-add xs (ys ++ replicate 8 0x40) (length ys + (w - 12))
      ∙ ap (λ (u : List ℕ). xs ++ u) (take-append-add ys (replicate 8 0x40) (w - 12) ∙ ap (λ (u : List ℕ). ys ++ u) (take-replicate (w - 12) 8 0x40 (omega arith)))

-- the library's test of two slices is the test over the full width
pub same_bytes : (xs ys : List ℕ) → pointwise eqb xs ys ≡ alike xs ys
unfolding alike ◌and◌
same_bytes [] [] = refl
same_bytes [] (y ∷ ys) = refl
same_bytes (x ∷ xs) [] = refl
same_bytes (x ∷ xs) (y ∷ ys) = rw (same_bytes xs ys) (go (eqb x y))
  where
    go : (b : Bool) → (b && alike xs ys) ≡ (b and alike xs ys)
    go true = refl
    go false = refl

-- the first bytes of a symbol, a serial number and blanks are the symbol's
pub symbol_byte : (xs ys : List ℕ) (n i : ℕ) → length xs ≡ 4 → length ys ≡ 8 → i < 4 → get_or xs i 0 ≡ get_or (symbol_and_serial xs ys n) i 0
unfolding symbol_and_serial
symbol_byte xs ys n i h k b = sym (get_or-append xs (ys ++ replicate n 0x40) 0 i (omega arith))

-- of copies of the field and of the serial number
pub composed_held : (r : Bool) (own field symbol serial number : List ℕ) (width : ℕ) → own ≡ field → length field ≡ width → serial ≡ number
    → r ≡ alike own (symbol_and_serial symbol serial (length own - 12)) → r ≡ alike field (symbol_and_serial symbol number (width - 12))
composed_held r own field symbol serial number width e w n h = h ∙ rw (e, w, n)

-- what the checks of fields are worked out by
pub ruleset checks = (chain, reads, dashed_told, plain_told, routing_blank, routing_digits, equals, above, some_cents, no_cents, whole_nothing, whole_limit, whole_of, range_low, range_in, range_high)
