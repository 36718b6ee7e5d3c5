-- Where a moved value stands: its part is a part of the bytes at a place, and with its zeros and blanks it is what they mean.
-- Assumes nothing.
use mathlib.Core.Path.{◌≡◌, refl, sym, ap, ◌∙◌}
use mathlib.Core.Bool.{Bool, true, false, true≢false}
use mathlib.Core.List.{List, [], ◌∷◌, ◌++◌, append-nil, map-append}
use Prim.Native.Nat.{ℕ, zero, suc, ◌+◌, ◌-◌, ◌≤◌, ◌<◌}
use native.Mathlib.Nat.{le_of_suc-le-suc, not-suc-le-zero}
use native.Mathlib.Omega.{arith}
use lib.Dec.{eqb}
use borrow.Author.Tests.{not-true, not-false}
use lib.ListN.{length, take, drop, get_or, replicate, length-append, length-replicate, get_or-replicate, get_or-eq_default}
use lib.Seq.{slice, drop-drop, take-take, take_all}
use Rattle.page.specs.CodePage.{code_page, ebcdic, shown}
use Rattle.std.specs.declared.cmp.Ordering.{Ordering}
use Rattle.record.specs.declared.Justification.{Justification}
use Rattle.record.specs.declared.Justification.TheVariants.{Text, Number, Right, Fixed}
use Rattle.record.specs.declared.place.Place.{Place}
use Rattle.record.specs.declared.moved.Moved.{Moved}
use Rattle.record.specs.Choice.{◌and◌, choose}
use Rattle.record.specs.Correction.{from_first, up_to_last, trimmed, moved_left, moved_right, zero_padded, corrected}
use Rattle.record.specs.Place.{Within, value, sent}
use Rattle.record.specs.Moved.{filled, in_front, in_back, in_place, part_of, left_of, right_of, blanks, moved_sent, moved_value, Fits, Found}
use Rattle.record.specs.Tests.{every, blank, digit, digits}
use Rattle.record.specs.Numeral.{numeral}
use Rattle.record.specs.Ordering.{order}
use Rattle.page.proofs.Shown.{shown_byte, shown_plain, shown_length, shown_take, shown_drop, shown_at}
use Rattle.record.proofs.Every.{value_length, slice_from, digits_part}
use Rattle.record.proofs.Sent.{sent_length, value_sent}
use Rattle.record.proofs.Parts.{at_first, at_second, at_third, every_whole_part, every_blank_behind, zeros_count_nothing}
use Rattle.record.proofs.Corrected.{Led, led_next, led_stop, led_end, Trailed, trailed_none, trailed_next, trailed_stop, trailed_end, corrected_stays, corrected_all_blank, moved_left_is, moved_right_is, trimmed_is, led_blank, led_filled}

-- a part of the bytes as the rules see them
slice_shown : (c : Bool) (a b : ℕ) (xs : List ℕ) → shown c (slice a b xs) ≡ slice a b (shown c xs)
slice_shown c a b xs = shown_drop c a (take b xs) ∙ ap (drop a) (shown_take c b xs)

-- the part of a place is the part of its value
module _ (rec : List ℕ) (p : Place) (w : Within rec p) (a b : ℕ) (h : a ≤ b) (k : b ≤ p.width) where
  pub part_within : Within rec (part_of p a b)
  unfolding Within
  part_within = omega arith

  pub part_value : value rec (part_of p a b) ≡ slice a b (value rec p)
  unfolding value
  part_value =
      let xs = drop p.start rec in
      ap (shown p.ascii) (ap (take (b - a)) (sym (drop-drop a p.start rec)) ∙ sym (slice_from a b xs) ∙ ap (drop a) (sym (take-take b p.width xs k)))
      ∙ slice_shown p.ascii a b (take p.width xs)

-- what is moved left, and what is moved right
module _ (rec : List ℕ) (p : Place) (w : Within rec p) where
  left_value : (a : ℕ) → a ≤ p.width → moved_value rec (left_of p a) ≡ drop a (value rec p) ++ replicate a 0x40
  unfolding moved_value
  left_value a h =
      let n : p.width - (0 + (p.width - a)) ≡ a = omega arith in
      let l : length (value rec p) ≤ p.width = omega (arith, value_length rec p w) in
      rw (part_value rec p w a p.width h (omega arith), n, take_all p.width (value rec p) l)

  right_value : (a b : ℕ) → a ≤ b → b ≤ p.width → moved_value rec (right_of p a b) ≡ replicate (length (value rec p) - (b - a)) 0xF0 ++ slice a b (value rec p)
  unfolding moved_value
  right_value a b h k =
      let n : p.width - ((p.width - (b - a)) + (b - a)) ≡ 0 = omega arith in
      rw (part_value rec p w a b h k, n, append-nil (slice a b (value rec p)), value_length rec p w)

  found_left : (j : Justification) (a : ℕ) → a ≤ p.width → drop a (value rec p) ++ replicate a 0x40 ≡ corrected j (value rec p) → Found rec p j (left_of p a)
  found_left j a h e = record {
    fits = record { within = part_within rec p w a p.width h (omega arith); room = omega arith };
    wide = refl;
    holds = left_value a h ∙ e;
  }

  found_right : (j : Justification) (a b : ℕ) → from_first (value rec p) ≡ drop a (value rec p) → up_to_last (drop a (value rec p)) ≡ slice a b (value rec p) → a ≤ b → b ≤ p.width
      → moved_right (value rec p) ≡ corrected j (value rec p) → Found rec p j (right_of p a b)
  found_right j a b e f k l q = record {
    fits = record { within = part_within rec p w a b k l; room = omega arith };
    wide = refl;
    holds = right_value a b k l ∙ sym (moved_right_is (value rec p) a b e f k (omega (arith, value_length rec p w))) ∙ q;
  }

  -- all blank, or fixed: the bytes as they stand
  found_whole : (j : Justification) → corrected j (value rec p) ≡ value rec p → Found rec p j (left_of p 0)
  found_whole j e = found_left j 0 (omega arith) (append-nil (value rec p) ∙ sym e)

  module _ (m : Moved) where
    pub found_blank : (j : Justification) (a : ℕ) → m ≡ left_of p 0 → from_first (value rec p) ≡ drop a (value rec p) → a ≡ p.width → Found rec p j m
    found_blank j a q e h = rw q (found_whole j (corrected_all_blank j (value rec p) (led_blank (value rec p) a e (omega (arith, value_length rec p w)))))

    pub found_fixed : (j : Justification) → m ≡ left_of p 0 → j ≡ Fixed → Found rec p j m
    unfolding corrected
    found_fixed j q o = rw (q, o) (found_whole Fixed refl)

    -- what begins at a, and is not all blank
    module _ (a : ℕ) (e : from_first (value rec p) ≡ drop a (value rec p)) where
      some : a < p.width → blank (value rec p) ≡ false
      some h = led_filled (value rec p) a e (omega (arith, value_length rec p w))

      to_left : a ≤ p.width → drop a (value rec p) ++ replicate a 0x40 ≡ moved_left (value rec p)
      to_left h = sym (moved_left_is (value rec p) a e (omega (arith, value_length rec p w)))

      pub found_text : (j : Justification) → m ≡ left_of p a → a ≤ p.width → j ≡ Text → Found rec p j m
      unfolding corrected
      found_text j q h o = rw (q, o) (found_left Text a h (to_left h))

      -- and ends before b
      module _ (b : ℕ) (f : up_to_last (drop a (value rec p)) ≡ slice a b (value rec p)) (k : a ≤ b) (l : b ≤ p.width) where
        run : trimmed (value rec p) ≡ slice a b (value rec p)
        run = trimmed_is (value rec p) a b e f k (omega (arith, value_length rec p w))

        pub found_padded : (j : Justification) → m ≡ right_of p a b → a ≤ p.width → (a ≡ p.width → ⊥) → j ≡ Right → Found rec p j m
        unfolding corrected choose
        found_padded j q h d o = rw (q, o) (found_right Right a b e f k l (rw (some (omega arith))))

        pub found_number : (t : Bool) → m ≡ right_of p a b → a < p.width → t ≡ digits (slice a b (value rec p)) → t ≡ true → Found rec p Number m
        unfolding corrected zero_padded choose
        found_number t q h u v = rw q (found_right Number a b e f k l (rw (some h, run, ← u, v)))

        pub found_other : (t : Bool) → m ≡ left_of p a → a < p.width → t ≡ digits (slice a b (value rec p)) → t ≡ false → Found rec p Number m
        unfolding corrected zero_padded choose
        found_other t q h u v = rw q (found_left Number a (omega arith) (rw (some h, run, ← u, v) (to_left (omega arith))))

-- a number
pub found_as : (rec : List ℕ) (p : Place) (j : Justification) (m : Moved) → Found rec p Number m → j ≡ Number → Found rec p j m
found_as rec p j m f o = rw o f

-- the byte is blank or not, as the test of it told
blank_told : (r : Bool) (x : ℕ) → r ≡ filled x → r ≡ false → eqb x 0x40 ≡ true
blank_told r x e t = not-false (eqb x 0x40) (sym e ∙ t)

filled_told : (r : Bool) (x : ℕ) → r ≡ filled x → r ≡ true → eqb x 0x40 ≡ false
filled_told r x e t = not-true (eqb x 0x40) (sym e ∙ t)

-- the loops that look for the ends, at a place
module _ (rec : List ℕ) (p : Place) (w : Within rec p) where
  module _ (i : ℕ) (r : Bool) (h : i < p.width) (e : r ≡ filled (get_or (value rec p) i 0)) where
    pub lead_on : r ≡ false → Led (value rec p) i → Led (value rec p) (i + 1)
    lead_on t l = led_next (value rec p) i (omega (arith, value_length rec p w)) (blank_told r (get_or (value rec p) i 0) e t) l

    pub lead_here : r ≡ true → Led (value rec p) i → from_first (value rec p) ≡ drop i (value rec p)
    lead_here t l = led_stop (value rec p) i (omega (arith, value_length rec p w)) (filled_told r (get_or (value rec p) i 0) e t) l

  pub lead_out : (i : ℕ) → p.width ≤ i → Led (value rec p) i → from_first (value rec p) ≡ drop i (value rec p)
  lead_out i h l = led_end (value rec p) i (omega (arith, value_length rec p w)) l

  pub tail_none : (a : ℕ) → Trailed (value rec p) a p.width
  tail_none a = trailed_none (value rec p) a p.width (value_length rec p w)

  module _ (a i : ℕ) (r : Bool) (k : a ≤ i) (h : i < p.width) (q : r ≡ filled (get_or (value rec p) i 0)) where
    pub tail_on : r ≡ false → Trailed (value rec p) a (i + 1) → Trailed (value rec p) a i
    tail_on t l =
        let n : i + 1 - 1 ≡ i = omega arith in
        rw n at (trailed_next (value rec p) a (i + 1) (omega arith) (omega (arith, value_length rec p w)) (rw n (blank_told r (get_or (value rec p) i 0) q t)) l)

    pub tail_here : r ≡ true → Trailed (value rec p) a (i + 1) → up_to_last (drop a (value rec p)) ≡ slice a (i + 1) (value rec p)
    tail_here t l =
        let n : i + 1 - 1 ≡ i = omega arith in
        trailed_stop (value rec p) a (i + 1) (omega arith) (omega (arith, value_length rec p w)) (rw n (filled_told r (get_or (value rec p) i 0) q t)) l

  pub tail_out : (a e : ℕ) → a ≤ e → e ≤ a → Trailed (value rec p) a e → up_to_last (drop a (value rec p)) ≡ slice a e (value rec p)
  tail_out a e h k l = trailed_end (value rec p) a e h k l

-- what is not fixed begins with its first byte, and what is neither that nor text ends with its last
get_d_any : (xs : List ℕ) (i a b : ℕ) → i < length xs → get_or xs i a ≡ get_or xs i b
get_d_any [] i a b h = absurd (not-suc-le-zero h)
get_d_any (x ∷ xs) zero a b h = refl
get_d_any (x ∷ xs) (suc i) a b h = get_d_any xs i a b (le_of_suc-le-suc h)

front_of : (j : Justification) (xs : List ℕ) → (j ≡ Fixed → ⊥) → in_front j xs ≡ filled (get_or xs 0 0x40)
unfolding in_front
front_of Text xs h = refl
front_of Number xs h = refl
front_of Right xs h = refl
front_of Fixed xs h = absurd (h refl)

back_of : (j : Justification) (xs : List ℕ) → (j ≡ Fixed → ⊥) → (j ≡ Text → ⊥) → in_back j xs ≡ filled (get_or xs (length xs - 1) 0x40)
unfolding in_back
back_of Text xs h t = absurd (t refl)
back_of Number xs h t = refl
back_of Right xs h t = refl
back_of Fixed xs h t = absurd (h refl)

module _ (rec : List ℕ) (p : Place) (w : Within rec p) (j : Justification) (o : j ≡ Fixed → ⊥) where
  pub front_none : p.width ≤ 0 → false ≡ in_front j (value rec p)
  front_none h =
      let n : length (value rec p) ≤ 0 = omega (arith, value_length rec p w) in
      sym (front_of j (value rec p) o ∙ rw (get_or-eq_default (value rec p) 0x40 n))

  pub front_is : (r : Bool) → 0 < p.width → r ≡ filled (get_or (value rec p) 0 0) → r ≡ in_front j (value rec p)
  front_is r d e = e ∙ ap (λ (x : ℕ). filled x) (get_d_any (value rec p) 0 0 0x40 (omega (arith, value_length rec p w))) ∙ sym (front_of j (value rec p) o)

  module _ (t : j ≡ Text → ⊥) where
    pub back_none : p.width ≤ 0 → false ≡ in_back j (value rec p)
    back_none h =
        let n : length (value rec p) ≤ length (value rec p) - 1 = omega (arith, value_length rec p w) in
        sym (back_of j (value rec p) o t ∙ rw (get_or-eq_default (value rec p) 0x40 n))

    pub back_is : (r : Bool) → 0 < p.width → r ≡ filled (get_or (value rec p) (p.width - 1) 0) → r ≡ in_back j (value rec p)
    back_is r d e =
        let n : length (value rec p) - 1 < length (value rec p) = omega (arith, value_length rec p w) in
        e ∙ ap (λ (k : ℕ). filled (get_or (value rec p) (k - 1) 0)) (sym (value_length rec p w))
        ∙ ap (λ (x : ℕ). filled x) (get_d_any (value rec p) (length (value rec p) - 1) 0 0x40 n) ∙ sym (back_of j (value rec p) o t)

-- a moved value's bytes
module _ (rec : List ℕ) (m : Moved) where
  zeros_length : length {A = ℕ} (replicate m.zeros (choose m.kept.ascii 0x30 0xF0)) ≡ m.zeros
  zeros_length = length-replicate {A = ℕ} m.zeros (choose m.kept.ascii 0x30 0xF0)

  pub moved_zero : (i r : ℕ) → i < m.zeros → r ≡ choose m.kept.ascii 0x30 0xF0 → r ≡ get_or (moved_sent rec m) i 0
  unfolding moved_sent
  moved_zero i r h e =
      sym (at_first (replicate m.zeros (choose m.kept.ascii 0x30 0xF0)) (sent rec m.kept) (replicate (blanks m) (choose m.kept.ascii 0x20 0x40)) i (omega (arith, zeros_length))
      ∙ get_or-replicate m.zeros i (choose m.kept.ascii 0x30 0xF0) 0 h ∙ sym e)

  module _ (f : Fits rec m) where
    part_length : length (sent rec m.kept) ≡ m.kept.width
    part_length = sent_length rec m.kept f.within

    pub moved_part : (i r : ℕ) → m.zeros ≤ i → i - m.zeros < m.kept.width → r ≡ get_or (sent rec m.kept) (i - m.zeros) 0 → r ≡ get_or (moved_sent rec m) i 0
    unfolding moved_sent
    moved_part i r h k e =
        e ∙ sym (at_second (replicate m.zeros (choose m.kept.ascii 0x30 0xF0)) (sent rec m.kept) (replicate (blanks m) (choose m.kept.ascii 0x20 0x40)) i (i - m.zeros)
        (omega (arith, zeros_length)) (omega (arith, part_length)))

    pub moved_blank : (i r : ℕ) → m.zeros ≤ i → m.kept.width ≤ i - m.zeros → i < m.width → r ≡ choose m.kept.ascii 0x20 0x40 → r ≡ get_or (moved_sent rec m) i 0
    unfolding moved_sent
    moved_blank i r h k l e =
        let j = i - (m.zeros + m.kept.width) in
        sym (at_third (replicate m.zeros (choose m.kept.ascii 0x30 0xF0)) (sent rec m.kept) (replicate (blanks m) (choose m.kept.ascii 0x20 0x40)) i (i - (m.zeros + m.kept.width))
        (omega (arith, zeros_length, part_length))
        ∙ get_or-replicate (blanks m) (i - (m.zeros + m.kept.width)) (choose m.kept.ascii 0x20 0x40) 0 (omega arith) ∙ sym e)

    pub moved_sent_length : length (moved_sent rec m) ≡ m.width
    unfolding moved_sent
    moved_sent_length =
        let g = f.room in
        length-append (replicate m.zeros (choose m.kept.ascii 0x30 0xF0)) (sent rec m.kept ++ replicate (blanks m) (choose m.kept.ascii 0x20 0x40))
        ∙ omega (arith, zeros_length, length-append (sent rec m.kept) (replicate (blanks m) (choose m.kept.ascii 0x20 0x40)), part_length, length-replicate {A = ℕ} (blanks m) (choose m.kept.ascii 0x20 0x40))

-- as the rules see them
shown_append : (c : Bool) (xs ys : List ℕ) → shown c (xs ++ ys) ≡ shown c xs ++ shown c ys
unfolding shown
shown_append true xs ys = map-append ebcdic xs ys
shown_append false xs ys = refl

shown_pad : (c : Bool) (n a b : ℕ) → ebcdic a ≡ b → shown c (replicate n (choose c a b)) ≡ replicate n b
unfolding shown choose
shown_pad true zero a b e = refl
shown_pad true (suc n) a b e = rw (e, shown_pad true n a b e)
shown_pad false n a b e = refl

pub moved_shown : (rec : List ℕ) (m : Moved) → shown m.kept.ascii (moved_sent rec m) ≡ moved_value rec m
unfolding moved_sent moved_value ebcdic code_page
moved_shown rec m =
    rw (
      shown_append m.kept.ascii (replicate m.zeros (choose m.kept.ascii 0x30 0xF0)) (sent rec m.kept ++ replicate (blanks m) (choose m.kept.ascii 0x20 0x40)),
      shown_append m.kept.ascii (sent rec m.kept) (replicate (blanks m) (choose m.kept.ascii 0x20 0x40)),
      shown_pad m.kept.ascii m.zeros 0x30 0xF0 refl,
      shown_pad m.kept.ascii (blanks m) 0x20 0x40 refl,
      value_sent rec m.kept,
    )

module _ (rec : List ℕ) (m : Moved) (f : Fits rec m) where
  pub moved_length : length (moved_value rec m) ≡ m.width
  moved_length = ap length (sym (moved_shown rec m)) ∙ shown_length m.kept.ascii (moved_sent rec m) ∙ moved_sent_length rec m f

  module _ (i s : ℕ) (h : i < m.width) (e : s ≡ get_or (moved_sent rec m) i 0) where
    seen_moved : get_or (moved_value rec m) i 0 ≡ shown_byte m.kept.ascii s
    seen_moved =
        ap (λ (xs : List ℕ). get_or xs i 0) (sym (moved_shown rec m))
        ∙ shown_at m.kept.ascii (moved_sent rec m) i (omega (arith, moved_sent_length rec m f)) ∙ ap (shown_byte m.kept.ascii) (sym e)

    pub moved_translated : (r : ℕ) → m.kept.ascii ≡ true → r ≡ ebcdic s → r ≡ get_or (moved_value rec m) i 0
    moved_translated r a q = q ∙ sym (seen_moved ∙ rw a)

    pub moved_plain : m.kept.ascii ≡ false → s ≡ get_or (moved_value rec m) i 0
    moved_plain a = sym (seen_moved ∙ rw a)

  -- a copy of what was sent, translated where that is ASCII
  pub moved_copied : (copy : List ℕ) → m.kept.ascii ≡ false → copy ≡ moved_sent rec m → copy ≡ moved_value rec m
  moved_copied copy a e = e ∙ sym (ap (λ (c : Bool). shown c (moved_sent rec m)) a ∙ shown_plain (moved_sent rec m)) ∙ moved_shown rec m

  pub moved_copied_shown : (copy after : List ℕ) → m.kept.ascii ≡ true → copy ≡ moved_sent rec m → after ≡ shown true copy → after ≡ moved_value rec m
  moved_copied_shown copy after a e t = t ∙ ap (shown true) e ∙ sym (ap (λ (c : Bool). shown c (moved_sent rec m)) a) ∙ moved_shown rec m

-- every byte of a moved value: zeros pass a test, or blanks fail it
module _ (rec : List ℕ) (p : Place) (j : Justification) (m : Moved) (d : Found rec p j m) where
  pub all_not : m.zeros + m.kept.width < m.width → (q : ℕ → Bool) → q 0x40 ≡ false → every q (corrected j (value rec p)) ≡ false
  unfolding moved_value
  all_not h q b = ap (every q) (sym d.holds) ∙ every_blank_behind q m.zeros (blanks m) (value rec m.kept) b (omega arith)

  pub all_kept : m.width ≤ m.zeros + m.kept.width → (q : ℕ → Bool) → q 0xF0 ≡ true → every q (corrected j (value rec p)) ≡ every q (value rec m.kept)
  unfolding moved_value
  all_kept h q z = ap (every q) (sym d.holds) ∙ every_whole_part q m.zeros (blanks m) (value rec m.kept) z (omega arith)

  -- of digits no blank follows, and the part's are its own behind the zeros
  module _ (g : digits (corrected j (value rec p)) ≡ true) where
    no_blanks : blanks m ≡ 0
    unfolding digits digit ◌and◌
    no_blanks = go (blanks m) refl
      where
        go : (n : ℕ) → blanks m ≡ n → blanks m ≡ 0
        go zero e = e
        go (suc n) e = absurd (true≢false (sym g ∙ all_not (omega arith) digit refl))

    kept_digits : digits (value rec m.kept) ≡ true
    unfolding digits digit ◌and◌
    kept_digits = sym (all_kept (omega (arith, no_blanks)) digit refl) ∙ g

    kept_value : corrected j (value rec p) ≡ replicate m.zeros 0xF0 ++ value rec m.kept
    unfolding moved_value
    kept_value = sym d.holds ∙ rw (no_blanks, append-nil (value rec m.kept))

    pub number_asked : (from to a b : ℕ) → a ≡ from - m.zeros → b ≡ to - m.zeros → from ≤ to → to ≤ p.width → to - from ≤ 18
        → Within rec m.kept × (a ≤ b) × (b ≤ m.kept.width) × (b - a ≤ 18) × (digits (slice a b (value rec m.kept)) ≡ true)
    number_asked from to a b u v h k l =
        (d.fits.within, omega arith, omega (arith, no_blanks, d.wide, d.fits.room), omega arith, digits_part a b (value rec m.kept) (digits (value rec m.kept)) refl kept_digits)

    pub number_read : (from to a b r : ℕ) → a ≡ from - m.zeros → b ≡ to - m.zeros → r ≡ numeral (slice a b (value rec m.kept)) → r ≡ numeral (slice from to (corrected j (value rec p)))
    number_read from to a b r u v e = e ∙ rw (u, v, kept_value) (sym (zeros_count_nothing m.zeros from to (value rec m.kept)))

-- a copy of the bytes that stand in their place, and of those that were found
pub copy_stays : (j : Justification) (xs ys : List ℕ) (t : Bool) → t ≡ in_place j xs → t ≡ true → ys ≡ xs → ys ≡ corrected j xs
copy_stays j xs ys t u h e = e ∙ sym (corrected_stays j xs (sym u ∙ h))

pub copy_found : (rec : List ℕ) (p : Place) (j : Justification) (m : Moved) (ys : List ℕ) → Found rec p j m → ys ≡ moved_value rec m → ys ≡ corrected j (value rec p)
copy_found rec p j m ys d e = e ∙ d.holds

-- the order of two values that stand where they belong
pub order_stays : (j k : Justification) (xs ys : List ℕ) (t u : Bool) (o : Ordering) → t ≡ in_place j xs → t ≡ true → u ≡ in_place k ys → u ≡ true → o ≡ order xs ys → o ≡ order (corrected j xs) (corrected k ys)
order_stays j k xs ys t u o p q r s e = e ∙ rw (corrected_stays j xs (sym p ∙ q), corrected_stays k ys (sym r ∙ s))
