-- What is read of a value from its bytes as they were sent: no byte is translated (02 W2).
-- Assumes nothing.
use mathlib.Core.Path.{◌≡◌, refl, ap, sym, ◌∙◌}
use mathlib.Core.Bool.{Bool, true, false, true≢false, not, ◌&&◌}
use mathlib.Core.List.{List, [], ◌∷◌, map}
use Prim.Native.Nat.{ℕ, ◌+◌, ◌-◌, ◌%◌, ◌≤◌, ◌<◌, min}
use native.Mathlib.Omega.{arith}
use lib.Bits.{bit_xor, xor_add_and, and_le_l, and_le_r}
use lib.Dec.{leb, eqb}
use lib.ListN.{length, take, drop, get_or, length-take, length-drop}
use lib.Seq.{get_or-take, get_or-drop, slice, take_all}
use borrow.Author.Tests.{lt-leb, le-leb, leb-true, leb-false}
use Rattle.page.specs.CodePage.{code_page, ebcdic, shown, twins}
use Rattle.page.proofs.CodePage.{below, below_each, digit_lands, digit_sent, twin_byte, twin_rest, valid_sent}
use Rattle.page.proofs.Shown.{shown_byte, shown_take, shown_drop, shown_at}
use Rattle.std.specs.declared.cmp.Ordering.{Ordering}
use Rattle.std.specs.declared.cmp.Ordering.TheVariants.{Less, Equal, Greater}
use Rattle.record.specs.declared.place.Place.{Place}
use Rattle.record.specs.Choice.{◌and◌, choose}
use Rattle.record.specs.Ordering.{order}
use Rattle.record.specs.Place.{Within, value, plain, sent, near, least_printable, WholeOf}
use Rattle.record.specs.Tests.{every, only, solid, digit, digits, valid, least_from, alike}
use Rattle.record.proofs.Chain.{and_left, and_right, and_true}
use Rattle.record.proofs.Every.{value_length, slice_from, above_min, and_swap, digit_in, digit_range, valid_is}
use Rattle.record.proofs.Numbers.{digit_at}
use Rattle.std.specs.Ordering.{nat_cmp, is_eq}
use Rattle.record.proofs.Orders.{Level, level_alike, level_next, level_apart, order_equal, before_not, after_not}
use Rattle.record.proofs.Same.{alike_equal, alike_self}

pub value_sent : (rec : List ℕ) (p : Place) → value rec p ≡ shown p.ascii (sent rec p)
unfolding value shown
value_sent rec p = refl

-- the place of the bytes as they were sent lies in the record
pub within_plain : (rec : List ℕ) (p : Place) → Within rec p → Within rec (plain p)
unfolding Within
within_plain rec p w = w

-- as many bytes were sent as the place is wide
pub sent_length : (rec : List ℕ) (p : Place) → Within rec p → length (sent rec p) ≡ p.width
sent_length rec p w = value_length rec (plain p) (within_plain rec p w)

-- it is a part of the record
pub sent_part : (rec : List ℕ) (p : Place) (n : ℕ) → n ≡ p.width → take n (drop p.start rec) ≡ sent rec p
unfolding value shown
sent_part rec p n e = rw e

-- and a part of it, by its beginning and its length
pub sent_slice : (rec : List ℕ) (p : Place) (from to : ℕ) (xs : List ℕ) → xs ≡ sent rec p → take (to - from) (drop from xs) ≡ slice from to (sent rec p)
sent_slice rec p from to xs e = sym (slice_from from to xs) ∙ ap (slice from to) e

pub plain_sent : (rec : List ℕ) (p : Place) → p.ascii ≡ false → value rec p ≡ sent rec p
unfolding shown
plain_sent rec p e = value_sent rec p ∙ rw e

ascii_sent : (rec : List ℕ) (p : Place) → p.ascii ≡ true → value rec p ≡ map ebcdic (sent rec p)
unfolding shown
ascii_sent rec p e = value_sent rec p ∙ rw e

ascii_at : (rec : List ℕ) (p : Place) (i : ℕ) → Within rec p → p.ascii ≡ true → i < p.width → ebcdic (get_or (sent rec p) i 0) ≡ get_or (value rec p) i 0
ascii_at rec p i w a h =
    let n : i < length (sent rec p) = omega (arith, sent_length rec p w) in
    sym (ap (λ (xs : List ℕ). get_or xs i 0) (value_sent rec p) ∙ shown_at p.ascii (sent rec p) i n ∙ rw a)

-- two values in ASCII, of which x and y were sent at i
module _ (rec : List ℕ) (p : Place) (other : List ℕ) (q : Place) (w : Within rec p) (v : Within other q) (a : p.ascii ≡ true) (b : q.ascii ≡ true) (i : ℕ) (l : Level (value rec p) (value other q) i) (x y : ℕ) (t : (i < length (sent rec p)) × (i < length (sent other q)) × ((d : ℕ) → x ≡ get_or (sent rec p) i d) × ((d : ℕ) → y ≡ get_or (sent other q) i d)) where
  in_first : i < p.width
  in_first = omega (arith, t.0, sent_length rec p w)

  in_second : i < q.width
  in_second = omega (arith, t.1, sent_length other q v)

  first_inside : i < length (value rec p)
  first_inside = omega (arith, in_first, value_length rec p w)

  second_inside : i < length (value other q)
  second_inside = omega (arith, in_second, value_length other q v)

  first_seen : ebcdic x ≡ get_or (value rec p) i 0
  first_seen = ap ebcdic (t.2 0) ∙ ascii_at rec p i w a in_first

  second_seen : ebcdic y ≡ get_or (value other q) i 0
  second_seen = ap ebcdic (t.3 0) ∙ ascii_at other q i v b in_second

  -- bytes that were sent alike are seen alike
  pub ascii_alike : x ≡ y → (m : ℕ) → m ≡ i + 1 → Level (value rec p) (value other q) m
  ascii_alike k m e =
      rw e (level_alike (value rec p) (value other q) i l first_inside second_inside (ebcdic x) (ebcdic y) first_seen second_seen _ refl (ap ebcdic k))

  -- o is the order of the two as they are seen
  module _ (c d : ℕ) (ec : c ≡ ebcdic x) (ed : d ≡ ebcdic y) (o : Ordering) (e : o ≡ nat_cmp c d) where
    pub ascii_next : o ≡ Equal → (m : ℕ) → m ≡ i + 1 → Level (value rec p) (value other q) m
    ascii_next k m s = rw s (level_next (value rec p) (value other q) i l first_inside second_inside c d (ec ∙ first_seen) (ed ∙ second_seen) o e k)

    pub ascii_apart : (o ≡ Equal → ⊥) → o ≡ order (value rec p) (value other q)
    ascii_apart k = level_apart (value rec p) (value other q) i l first_inside second_inside c d (ec ∙ first_seen) (ed ∙ second_seen) o e k

-- a test of translated bytes
every_map : (q : ℕ → Bool) (xs : List ℕ) → every q (map ebcdic xs) ≡ every (λ (x : ℕ). q (ebcdic x)) xs
unfolding every
every_map q [] = refl
every_map q (x ∷ xs) = ap (λ (b : Bool). q (ebcdic x) and b) (every_map q xs)

every_as : (q r : ℕ → Bool) → ((x : ℕ) → q x ≡ r x) → (xs : List ℕ) → every q xs ≡ every r xs
unfolding every
every_as q r e [] = refl
every_as q r e (x ∷ xs) = rw (e x, every_as q r e xs)

-- the place of all bytes
pub whole_of : (bytes : List ℕ) → WholeOf bytes (record { start = 0; width = length bytes; ascii = false })
unfolding Within value shown
whole_of bytes = record { within = omega arith; wide = refl; plain = refl; holds = take_all (length bytes) bytes (omega arith) }

pub whole_sent : (bytes : List ℕ) (p : Place) → WholeOf bytes p → sent bytes p ≡ bytes
whole_sent bytes p w = sym (plain_sent bytes p w.plain) ∙ w.holds

-- one test of every byte, by one byte and what it is sent as
tested_sent : (g : Bool → Bool) (rec : List ℕ) (p : Place) (b a w : ℕ) (r : Bool) → twins (a ∷ []) (b ∷ []) ≡ true → w ≡ choose p.ascii a b
    → r ≡ every (λ (x : ℕ). g (eqb x w)) (sent rec p) → r ≡ every (λ (x : ℕ). g (eqb x b)) (value rec p)
unfolding choose
tested_sent g rec p b a w r t e h = go p.ascii refl
  where
    go : (c : Bool) → p.ascii ≡ c → r ≡ every (λ (x : ℕ). g (eqb x b)) (value rec p)
    go true q =
        let v : w ≡ a = rw q at e in
        h ∙ rw (v, ascii_sent rec p q, every_map (λ (x : ℕ). g (eqb x b)) (sent rec p)) (sym (every_as (λ (x : ℕ). g (eqb (ebcdic x) b)) (λ (x : ℕ). g (eqb x a)) (λ x. ap g (twin_byte a b [] [] t x)) (sent rec p)))
    go false q =
        let v : w ≡ b = rw q at e in
        h ∙ rw (v, plain_sent rec p q)

-- one byte throughout
pub only_sent : (rec : List ℕ) (p : Place) (b a w : ℕ) (r : Bool) → twins (a ∷ []) (b ∷ []) ≡ true → w ≡ choose p.ascii a b → r ≡ only w (sent rec p) → r ≡ only b (value rec p)
unfolding only
only_sent rec p b a w r t e h = tested_sent (λ x. x) rec p b a w r t e h

-- no blank
pub solid_sent : (rec : List ℕ) (p : Place) (w : ℕ) (r : Bool) → w ≡ choose p.ascii 0x20 0x40 → r ≡ every (λ (x : ℕ). not (eqb x w)) (sent rec p) → r ≡ solid (value rec p)
unfolding solid twins ebcdic code_page
solid_sent rec p w r e h = tested_sent not rec p 0x40 0x20 w r refl e h

-- digits: the bytes that differ from zero by at most 9
agree : Bool → Bool → Bool
agree true b = b
agree false b = not b

agree_same : (a b : Bool) → agree a b ≡ true → a ≡ b
unfolding agree
agree_same true true e = refl
agree_same true false e = sym e
agree_same false false e = refl
agree_same false true e = e

ranged : ℕ → ℕ → Bool
ranged z x = leb z x and leb x (z + 9)

near_low : (z x : ℕ) → leb (bit_xor x z) 9 ≡ true → z - 9 ≤ x
near_low z x e = omega (arith, leb-true (bit_xor x z) 9 e, xor_add_and x z, and_le_l x z, and_le_r x z)

near_high : (z x : ℕ) → leb (bit_xor x z) 9 ≡ true → x ≤ z + 9
near_high z x e = omega (arith, leb-true (bit_xor x z) 9 e, xor_add_and x z, and_le_l x z, and_le_r x z)

same_at : ℕ → ℕ → Bool
same_at z k = agree (near z (z - 9 + k)) (ranged z (z - 9 + k))

module _ (z : ℕ) (least : 9 ≤ z) (test : below (same_at z) 19 ≡ true) where
  near_ranged : (x : ℕ) → near z x ≡ ranged z x
  unfolding near ranged same_at ◌and◌
  near_ranged x = go (leb (z - 9) x) refl (leb x (z + 9)) refl
    where
      inside : z - 9 ≤ x → x ≤ z + 9 → near z x ≡ ranged z x
      inside h l =
          let e : z - 9 + (x - (z - 9)) ≡ x = omega arith in
          rw e at (agree_same _ _ (below_each (same_at z) 19 test (x - (z - 9)) (omega arith)))

      far : (leb (bit_xor x z) 9 ≡ true → ⊥) → leb (bit_xor x z) 9 ≡ false
      far d = no (leb (bit_xor x z) 9) d
        where
          no : (b : Bool) → (b ≡ true → ⊥) → b ≡ false
          no true d = absurd (d refl)
          no false d = refl

      go : (s : Bool) → leb (z - 9) x ≡ s → (t : Bool) → leb x (z + 9) ≡ t → near z x ≡ ranged z x
      go true e true f = inside (leb-true (z - 9) x e) (leb-true x (z + 9) f)
      go true e false f = rw (far (λ q. absurd (omega (arith, near_high z x q, leb-false x (z + 9) f))), f, le-leb z x (omega (arith, leb-false x (z + 9) f)))
      go false e t f = rw (far (λ q. absurd (omega (arith, near_low z x q, leb-false (z - 9) x e))), lt-leb z x (omega (arith, leb-false (z - 9) x e)))

near_plain : (x : ℕ) → near 0xF0 x ≡ digit x
unfolding near ranged same_at agree digit ◌and◌
near_plain = near_ranged 0xF0 (omega arith) refl

within_leb : (a x b : ℕ) → a ≤ x → x ≤ b → (leb a x and leb x b) ≡ true
unfolding ◌and◌
within_leb a x b h l = rw (le-leb a x h) (le-leb x b l)

ascii_digit : (x : ℕ) (s : Bool) → ranged 0x30 x ≡ s → (t : Bool) → digit (ebcdic x) ≡ t → ranged 0x30 x ≡ digit (ebcdic x)
unfolding ranged
ascii_digit x true e t f =
    let h = leb-true 0x30 x (and_left (leb 0x30 x) _ e) in
    let l = leb-true x 0x39 (and_right (leb 0x30 x) _ e) in
    let q = digit_lands x h l in
    e ∙ sym (digit_in (ebcdic x) (omega (arith, q)) (omega (arith, q)))
ascii_digit x false e true f =
    let r = digit_range (ebcdic x) f in
    let s = digit_sent x r.0 r.1 in
    absurd (true≢false (sym (within_leb 0x30 x 0x39 s.0 s.2) ∙ e))
ascii_digit x false e false f = e ∙ sym f

near_ascii : (x : ℕ) → near 0x30 x ≡ digit (ebcdic x)
unfolding near ranged same_at agree ◌and◌
near_ascii x = near_ranged 0x30 (omega arith) refl x ∙ ascii_digit x (ranged 0x30 x) refl (digit (ebcdic x)) refl

near_sent : (z x : ℕ) (c : Bool) → z ≡ choose c 0x30 0xF0 → near z x ≡ digit (shown_byte c x)
unfolding choose
near_sent z x true e = rw e (near_ascii x)
near_sent z x false e = rw e (near_plain x)

slice_shown : (c : Bool) (from to : ℕ) (xs : List ℕ) → slice from to (shown c xs) ≡ shown c (slice from to xs)
slice_shown c from to xs = ap (drop from) (sym (shown_take c to xs)) ∙ sym (shown_drop c from (take to xs))

digits_all : (z : ℕ) (c : Bool) (xs : List ℕ) → z ≡ choose c 0x30 0xF0 → every (near z) xs ≡ every digit (shown c xs)
unfolding shown
digits_all z true xs e = every_as (near z) (λ (x : ℕ). digit (ebcdic x)) (λ x. near_sent z x true e) xs ∙ sym (every_map digit xs)
digits_all z false xs e = every_as (near z) digit (λ x. near_sent z x false e) xs

pub digits_sent : (rec : List ℕ) (p : Place) (from to z : ℕ) (r : Bool) → z ≡ choose p.ascii 0x30 0xF0 → r ≡ every (near z) (slice from to (sent rec p))
    → r ≡ digits (slice from to (value rec p))
unfolding digits
digits_sent rec p from to z r e h =
    h ∙ rw (value_sent rec p, slice_shown p.ascii from to (sent rec p)) (digits_all z p.ascii (slice from to (sent rec p)) e)

-- what a digit counts: its low half
counts : (c : Bool) (s v : ℕ) → (0xF0 ≤ v) × (v ≤ 0xF9) → v ≡ shown_byte c s → (s % 16 ≡ v - 0xF0) × (s % 16 ≤ 9)
counts true s v r e =
    let t = digit_sent s (omega (arith, r.0, e)) (omega (arith, r.1, e)) in
    (omega (arith, t.0, t.1, t.2, e), omega (arith, t.0, t.2))
counts false s v r e = (omega (arith, r.0, r.1, e), omega (arith, r.0, r.1, e))

module _ (rec : List ℕ) (p : Place) (i s : ℕ) (w : Within rec p) (k : i < p.width) (e : s ≡ get_or (sent rec p) i 0) where
  pub seen_byte : get_or (value rec p) i 0 ≡ shown_byte p.ascii s
  seen_byte = ap (λ (xs : List ℕ). get_or xs i 0) (value_sent rec p) ∙ shown_at p.ascii (sent rec p) i (omega (arith, value_length rec (plain p) (within_plain rec p w))) ∙ ap (shown_byte p.ascii) (sym e)

-- a byte of a part that is digits
module _ (rec : List ℕ) (p : Place) (w : Within rec p) (from to : ℕ) (h : from ≤ to) (k : to ≤ p.width) (bytes : List ℕ) (e : bytes ≡ sent rec p) where
  pub part_length : length (take (to - from) (drop from bytes)) ≡ to - from
  part_length = simp (length-take, length-drop) (omega (arith, ap length e, sent_length rec p w))

  module _ (i : ℕ) (l : i < length (take (to - from) (drop from bytes))) where
    part_at : get_or (take (to - from) (drop from bytes)) i 0 ≡ get_or (sent rec p) (from + i) 0
    part_at =
        let n : i < to - from = omega (arith, part_length) in
        get_or-take (to - from) (drop from bytes) i 0 n ∙ get_or-drop from bytes i 0 ∙ ap (λ (xs : List ℕ). get_or xs (from + i) 0) e

    pub digit_told : digits (slice from to (value rec p)) ≡ true → (d : ℕ) → d ≡ get_or (take (to - from) (drop from bytes)) i 0 % 16
        → (d ≡ get_or (value rec p) (from + i) 0 - 0xF0) × (d ≤ 9)
    digit_told g d q =
        let n : from + i < to = omega (arith, part_length) in
        let b = get_or (take (to - from) (drop from bytes)) i 0 in
        let t = counts p.ascii b (get_or (value rec p) (from + i) 0) (digit_at rec p from to (from + i) (get_or (value rec p) (from + i) 0) w k (omega arith) n g refl) (seen_byte rec p (from + i) b w (omega arith) part_at) in
        (q ∙ t.0, omega (arith, q, t.1))

-- one byte
pub byte_told : (rec : List ℕ) (p : Place) (i s b a w : ℕ) (r : Bool) → Within rec p → i < p.width → twins (a ∷ []) (b ∷ []) ≡ true → w ≡ choose p.ascii a b → s ≡ get_or (sent rec p) i 0
    → r ≡ eqb s w → r ≡ eqb (get_or (value rec p) i 0) b
unfolding choose
byte_told rec p i s b a w r k l t e f h = h ∙ go p.ascii refl ∙ ap (λ (x : ℕ). eqb x b) (sym (seen_byte rec p i s k l f))
  where
    go : (c : Bool) → p.ascii ≡ c → eqb s w ≡ eqb (shown_byte p.ascii s) b
    go true q = let v : w ≡ a = rw q at e in rw (q, v) (sym (twin_byte a b [] [] t s))
    go false q = let v : w ≡ b = rw q at e in rw (q, v)

-- the byte rule of ASCII
tested : (x : ℕ) → leb 0x20 (choose (leb x 0x7E) x 0) ≡ (leb 0x20 x && leb x 0x7E)
unfolding choose
tested x = go (leb x 0x7E) refl (leb 0x20 x) refl
  where
    go : (s : Bool) → leb x 0x7E ≡ s → (t : Bool) → leb 0x20 x ≡ t → leb 0x20 (choose (leb x 0x7E) x 0) ≡ (leb 0x20 x && leb x 0x7E)
    go true e true f = rw (e, f)
    go true e false f = rw (e, f)
    go false e true f = rw (e, f) (lt-leb 0x20 0 (omega arith))
    go false e false f = rw (e, f) (lt-leb 0x20 0 (omega arith))

least_tested : (xs : List ℕ) (n : ℕ) → leb 0x20 (least_printable n xs) ≡ (leb 0x20 n and every (λ (x : ℕ). leb 0x40 (ebcdic x)) xs)
unfolding least_printable every
least_tested [] n = sym (and_true (leb 0x20 n))
least_tested (x ∷ xs) n =
    least_tested xs (min (choose (leb x 0x7E) x 0) n)
    ∙ rw (above_min 0x20 (choose (leb x 0x7E) x 0) n, tested x, ← valid_sent x) (and_swap (leb 0x40 (ebcdic x)) (leb 0x20 n) (every (λ (x : ℕ). leb 0x40 (ebcdic x)) xs))

pub valid_ascii : (rec : List ℕ) (p : Place) (r : ℕ) → p.ascii ≡ true → r ≡ least_printable 0xFF (sent rec p) → leb 0x20 r ≡ valid (value rec p)
unfolding valid ◌and◌
valid_ascii rec p r q e = rw (e, ascii_sent rec p q, every_map (λ (x : ℕ). leb 0x40 x) (sent rec p)) (least_tested (sent rec p) 0xFF)

pub valid_plain : (rec : List ℕ) (p : Place) (r : ℕ) → p.ascii ≡ false → r ≡ least_from 0xFF (sent rec p) → leb 0x40 r ≡ valid (value rec p)
valid_plain rec p r q e = valid_is (sent rec p) r e ∙ rw (plain_sent rec p q)

-- a text
no_twins : (b : ℕ) (ts : List ℕ) → twins [] (b ∷ ts) ≡ true → (A : Type 0) → A
unfolding twins
no_twins b ts e A = absurd (true≢false (sym e))

no_chars : (a : ℕ) (chars : List ℕ) → twins (a ∷ chars) [] ≡ true → (A : Type 0) → A
unfolding twins
no_chars a chars e A = absurd (true≢false (sym e))

alike_twins : (chars ts xs : List ℕ) → twins chars ts ≡ true → alike (map ebcdic xs) ts ≡ alike xs chars
unfolding alike
alike_twins [] [] [] t = refl
alike_twins [] [] (x ∷ xs) t = refl
alike_twins [] (b ∷ ts) xs t = no_twins b ts t (alike (map ebcdic xs) (b ∷ ts) ≡ alike xs [])
alike_twins (a ∷ chars) [] xs t = no_chars a chars t (alike (map ebcdic xs) [] ≡ alike xs (a ∷ chars))
alike_twins (a ∷ chars) (b ∷ ts) [] t = refl
alike_twins (a ∷ chars) (b ∷ ts) (x ∷ xs) t = rw (twin_byte a b chars ts t x, alike_twins chars ts xs (twin_rest a b chars ts t))

pub text_sent : (rec : List ℕ) (p : Place) (text ascii w : List ℕ) (r : Bool) → twins ascii text ≡ true → w ≡ choose p.ascii ascii text → r ≡ alike (sent rec p) w
    → r ≡ alike (value rec p) text
unfolding choose
text_sent rec p text ascii w r t e h = go p.ascii refl
  where
    go : (c : Bool) → p.ascii ≡ c → r ≡ alike (value rec p) text
    go true q =
        let v : w ≡ ascii = rw q at e in
        h ∙ rw (v, ascii_sent rec p q) (sym (alike_twins ascii text (sent rec p) t))
    go false q =
        let v : w ≡ text = rw q at e in
        h ∙ rw (v, plain_sent rec p q)

-- what their order says of their being the same
apart : (xs ys : List ℕ) → (xs ≡ ys → ⊥) → false ≡ alike xs ys
apart xs ys d = go (alike xs ys) refl
  where
    go : (b : Bool) → alike xs ys ≡ b → false ≡ alike xs ys
    go true e = absurd (d (alike_equal xs ys e))
    go false e = sym e

pub order_alike : (xs ys : List ℕ) (r : Ordering) → r ≡ order xs ys → is_eq r ≡ alike xs ys
order_alike xs ys Less e = apart xs ys (before_not xs ys (sym e))
order_alike xs ys Equal e = rw (order_equal xs ys (sym e)) (sym (alike_self ys))
order_alike xs ys Greater e = apart xs ys (after_not xs ys (sym e))
