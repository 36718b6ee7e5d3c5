-- Laws of the correction, once over every width: the loops that look for its ends, what it keeps, and the places of a moved value.
-- Assumes nothing.
use mathlib.Core.Path.{◌≡◌, refl, ap, sym, ◌∙◌}
use mathlib.Core.Bool.{Bool, true, false, not, true≢false}
use mathlib.Core.List.{List, [], ◌∷◌, ◌++◌, append_assoc, append-nil}
use Prim.Native.Nat.{ℕ, zero, suc, ◌+◌, ◌-◌, ◌≤◌, ◌<◌}
use native.Mathlib.Numerals.{add-one}
use native.Mathlib.Omega.{arith}
use borrow.Author.Tests.{not-true, eqb-true, ne_eqb, leb-true}
use lib.Dec.{eqb}
use lib.ListN.{length, take, drop, get_or, replicate, length-append, length-replicate, length-take, length-drop, drop_of_length-le}
use lib.Seq.{slice, slice_empty, length-slice, drop-cons, take-suc, drop-append-le, take_all}
use Rattle.record.specs.declared.Justification.{Justification}
use Rattle.record.specs.declared.Justification.TheVariants.{Text, Number, Right, Fixed}
use Rattle.record.specs.Choice.{◌and◌, choose}
use Rattle.record.specs.Tests.{every, only, blank, digit, digits}
use Rattle.record.specs.Numeral.{numeral, numeral_from}
use Rattle.record.specs.Correction.{from_first, up_to_last, trimmed, moved_left, moved_right, zero_padded, corrected}
use Rattle.record.specs.Moved.{filled, in_front, in_back, in_place}
use Rattle.record.proofs.Chain.{and_left, and_right, and_false, and_true}

-- the first byte that is no blank is looked for: the bytes before i are blank, so what is left decides
unfoldable pub Led : List ℕ → ℕ → Type 0
Led xs i = from_first xs ≡ from_first (drop i xs)

-- at the first byte all is left
pub led_none : (xs : List ℕ) → Led xs 0
unfolding Led
led_none xs = refl

-- a blank is passed over
pub led_next : (xs : List ℕ) (i : ℕ) → i < length xs → eqb (get_or xs i 0) 0x40 ≡ true → Led xs i → Led xs (i + 1)
unfolding Led from_first choose
led_next xs i h t l = l ∙ rw (add-one, drop-cons xs i 0, t)

-- a byte that is no blank begins the value
pub led_stop : (xs : List ℕ) (i : ℕ) → i < length xs → eqb (get_or xs i 0) 0x40 ≡ false → Led xs i → from_first xs ≡ drop i xs
unfolding Led from_first choose
led_stop xs i h t l = l ∙ rw (drop-cons xs i 0, t)

-- after the last byte nothing is left
pub led_end : (xs : List ℕ) (i : ℕ) → length xs ≤ i → Led xs i → from_first xs ≡ drop i xs
unfolding Led from_first
led_end xs i h l = l ∙ rw (drop_of_length-le xs)

-- the last byte that is no blank is looked for: from a on, the bytes from e on are blank
unfoldable pub Trailed : List ℕ → ℕ → ℕ → Type 0
Trailed xs a e = up_to_last (drop a xs) ≡ up_to_last (slice a e xs)

blank_append : (xs ys : List ℕ) → blank (xs ++ ys) ≡ (blank xs and blank ys)
unfolding only every ◌and◌
blank_append [] ys = refl
blank_append (x ∷ xs) ys = rw (blank_append xs ys) (assoc (eqb x 0x40) (blank xs) (blank ys))
  where
    assoc : (a b c : Bool) → (a and (b and c)) ≡ ((a and b) and c)
    assoc true b c = refl
    assoc false b c = refl

last_blank : (ys : List ℕ) (x : ℕ) → eqb x 0x40 ≡ true → up_to_last (ys ++ x ∷ []) ≡ up_to_last ys
unfolding up_to_last only every ◌and◌ choose
last_blank [] x e = rw e
last_blank (y ∷ ys) x e = rw (blank_append ys (x ∷ []), e, and_true, last_blank ys x e)

last_filled : (ys : List ℕ) (x : ℕ) → eqb x 0x40 ≡ false → up_to_last (ys ++ x ∷ []) ≡ ys ++ x ∷ []
unfolding up_to_last only every ◌and◌ choose
last_filled [] x e = rw e
last_filled (y ∷ ys) x e = rw (blank_append ys (x ∷ []), e, and_false, and_false, last_filled ys x e)

slice_last : (xs : List ℕ) (a e d : ℕ) → a < e → e ≤ length xs → slice a e xs ≡ slice a (e - 1) xs ++ (get_or xs (e - 1) d ∷ [])
slice_last xs a e d k h =
    let s : suc (e - 1) ≡ e = omega arith in
    let n : e - 1 < length xs = omega arith in
    let m : a ≤ length (take (e - 1) xs) = simp length-take (omega arith) in
    sym (ap (λ (n : ℕ). slice a n xs) s) ∙ rw (take-suc xs (e - 1) d, drop-append-le)

slice_filled : (xs : List ℕ) (a e d : ℕ) → a < e → e ≤ length xs → eqb (get_or xs (e - 1) d) 0x40 ≡ false → up_to_last (slice a e xs) ≡ slice a e xs
slice_filled xs a e d k h t = rw (slice_last xs a e d k h) (last_filled (slice a (e - 1) xs) (get_or xs (e - 1) d) t)

-- behind the last byte nothing was passed over yet
pub trailed_none : (xs : List ℕ) (a e : ℕ) → length xs ≡ e → Trailed xs a e
unfolding Trailed
trailed_none xs a e h =
    let n : length xs ≤ e = omega arith in
    rw (take_all e xs)

-- a blank is passed over
pub trailed_next : (xs : List ℕ) (a e : ℕ) → a < e → e ≤ length xs → eqb (get_or xs (e - 1) 0) 0x40 ≡ true → Trailed xs a e → Trailed xs a (e - 1)
unfolding Trailed
trailed_next xs a e k h t l = l ∙ rw (slice_last xs a e 0 k h) (last_blank (slice a (e - 1) xs) (get_or xs (e - 1) 0) t)

-- a byte that is no blank ends the value
pub trailed_stop : (xs : List ℕ) (a e : ℕ) → a < e → e ≤ length xs → eqb (get_or xs (e - 1) 0) 0x40 ≡ false → Trailed xs a e
    → up_to_last (drop a xs) ≡ slice a e xs
unfolding Trailed
trailed_stop xs a e k h t l = l ∙ slice_filled xs a e 0 k h t

-- where the two ends meet nothing is left between them
pub trailed_end : (xs : List ℕ) (a e : ℕ) → a ≤ e → e ≤ a → Trailed xs a e → up_to_last (drop a xs) ≡ slice a e xs
unfolding Trailed up_to_last
trailed_end xs a e h k l =
    let q : e ≡ a = omega arith in
    l ∙ rw (q, slice_empty a xs)

choice : (b : Bool) (P : List ℕ → Type 0) (x y : List ℕ) → (b ≡ true → P x) → (b ≡ false → P y) → P (choose b x y)
unfolding choose
choice true P x y t f = t refl
choice false P x y t f = f refl

-- a corrected value is the value itself, moved left or moved right
ways : (P : List ℕ → Type 0) (j : Justification) (xs : List ℕ) → P xs → P (moved_left xs) → P (moved_right xs) → P (corrected j xs)
unfolding corrected zero_padded
ways P Text xs k l r = l
ways P Number xs k l r =
    choice (blank xs) P xs (zero_padded xs) (λ t. k) (λ t. choice (digits (trimmed xs)) P (moved_right xs) (moved_left xs) (λ t. r) (λ t. l))
ways P Right xs k l r = choice (blank xs) P xs (moved_right xs) (λ t. k) (λ t. r)
ways P Fixed xs k l r = k

from_first_short : (xs : List ℕ) → length (from_first xs) ≤ length xs
unfolding from_first
from_first_short [] = omega arith
from_first_short (x ∷ xs) =
    choice (eqb x 0x40) (λ l. length l ≤ suc (length xs)) (from_first xs) (x ∷ xs) (λ t. omega (arith, from_first_short xs)) (λ t. omega arith)

up_to_last_short : (xs : List ℕ) → length (up_to_last xs) ≤ length xs
unfolding up_to_last
up_to_last_short [] = omega arith
up_to_last_short (x ∷ xs) =
    choice (blank (x ∷ xs)) (λ l. length l ≤ suc (length xs)) [] (x ∷ up_to_last xs) (λ t. omega arith) (λ t. omega (arith, up_to_last_short xs))

moved_left_length : (xs : List ℕ) → length (moved_left xs) ≡ length xs
unfolding moved_left
moved_left_length xs =
    let n = length xs - length (from_first xs) in
    length-append (from_first xs) (replicate n 0x40) ∙ omega (arith, from_first_short xs, length-replicate {A = ℕ} n 0x40)

moved_right_length : (xs : List ℕ) → length (moved_right xs) ≡ length xs
unfolding moved_right trimmed
moved_right_length xs =
    let n = length xs - length (trimmed xs) in
    length-append (replicate n 0xF0) (trimmed xs)
    ∙ omega (arith, up_to_last_short (from_first xs), from_first_short xs, length-replicate {A = ℕ} n 0xF0)

-- a corrected value has full width
pub corrected_length : (j : Justification) (xs : List ℕ) → length (corrected j xs) ≡ length xs
corrected_length j xs = ways (λ l. length l ≡ length xs) j xs refl (moved_left_length xs) (moved_right_length xs)

-- a value that begins and ends with no blank
moved_left_kept : (xs : List ℕ) → from_first xs ≡ xs → moved_left xs ≡ xs
unfolding moved_left
moved_left_kept xs e =
    let q : length xs - length (from_first xs) ≡ 0 = omega (arith, ap length e) in
    rw (q, append-nil) e

moved_right_kept : (xs : List ℕ) → trimmed xs ≡ xs → moved_right xs ≡ xs
unfolding moved_right
moved_right_kept xs e =
    let q : length xs - length (trimmed xs) ≡ 0 = omega (arith, ap length e) in
    rw q e

-- a value whose ends are no blanks is unchanged
pub kept : (j : Justification) (xs : List ℕ) → from_first xs ≡ xs → up_to_last xs ≡ xs → corrected j xs ≡ xs
unfolding trimmed
kept j xs f u = ways (λ l. l ≡ xs) j xs refl (moved_left_kept xs f) (moved_right_kept xs (rw f u))

first_kept : (xs : List ℕ) → not (eqb (get_or xs 0 0x40) 0x40) ≡ true → from_first xs ≡ xs
unfolding from_first choose
first_kept [] e = refl
first_kept (x ∷ xs) e = rw (not-true (eqb x 0x40) e)

last_kept : (xs : List ℕ) → not (eqb (get_or xs (length xs - 1) 0x40) 0x40) ≡ true → up_to_last xs ≡ xs
unfolding up_to_last
last_kept [] e = refl
last_kept (x ∷ xs) e =
    let n = length (x ∷ xs) in
    let s : slice 0 n (x ∷ xs) ≡ x ∷ xs = take_all n (x ∷ xs) (omega arith) in
    sym (ap up_to_last s) ∙ slice_filled (x ∷ xs) 0 n 0x40 (omega arith) (omega arith) (not-true _ e) ∙ s

-- blank or not
from_first_blank : (xs : List ℕ) → blank (from_first xs) ≡ blank xs
unfolding from_first only every ◌and◌
from_first_blank [] = refl
from_first_blank (x ∷ xs) = choice (eqb x 0x40) (λ l. blank l ≡ blank (x ∷ xs)) (from_first xs) (x ∷ xs) (λ t. from_first_blank xs ∙ rw t) (λ t. refl)

up_to_last_blank : (xs : List ℕ) → blank (up_to_last xs) ≡ blank xs
unfolding up_to_last only every
up_to_last_blank [] = refl
up_to_last_blank (x ∷ xs) =
    choice (blank (x ∷ xs)) (λ l. blank l ≡ blank (x ∷ xs)) [] (x ∷ up_to_last xs) (λ t. sym t)
    (λ t. ap (λ (b : Bool). eqb x 0x40 and b) (up_to_last_blank xs))

moved_left_filled : (xs : List ℕ) → blank xs ≡ false → blank (moved_left xs) ≡ false
unfolding moved_left only ◌and◌
moved_left_filled xs e = blank_append (from_first xs) (replicate (length xs - length (from_first xs)) 0x40) ∙ rw (from_first_blank xs, e)

moved_right_filled : (xs : List ℕ) → blank xs ≡ false → blank (moved_right xs) ≡ false
unfolding moved_right trimmed only
moved_right_filled xs e =
    blank_append (replicate (length xs - length (trimmed xs)) 0xF0) (trimmed xs)
    ∙ rw (up_to_last_blank (from_first xs), from_first_blank xs, e, and_false)

blank_first : (xs : List ℕ) → blank xs ≡ true → from_first xs ≡ []
unfolding from_first only every
blank_first [] e = refl
blank_first (x ∷ xs) e =
    let t : eqb x 0x40 ≡ true = and_left _ _ e in
    choice (eqb x 0x40) (λ l. l ≡ []) (from_first xs) (x ∷ xs) (λ t. blank_first xs (and_right _ _ e)) (λ f. absurd (true≢false (sym t ∙ f)))

pub blank_all : (xs : List ℕ) → blank xs ≡ true → replicate (length xs) 0x40 ≡ xs
unfolding only every
blank_all [] e = refl
blank_all (x ∷ xs) e =
    let q : x ≡ 0x40 = eqb-true x 0x40 (and_left _ _ e) in
    rw (q, blank_all xs (and_right _ _ e))

moved_left_blank : (xs : List ℕ) → blank xs ≡ true → moved_left xs ≡ xs
unfolding moved_left
moved_left_blank xs e =
    let n : length xs - 0 ≡ length xs = omega arith in
    rw (blank_first xs e, n) (blank_all xs e)

-- a moved value begins, and moved right ends, with no blank
pad_first : (xs ys : List ℕ) → blank xs ≡ false → from_first (from_first xs ++ ys) ≡ from_first xs ++ ys
unfolding from_first only every ◌and◌ choose
pad_first [] ys e = absurd (true≢false e)
pad_first (x ∷ xs) ys e =
    choice (eqb x 0x40) (λ l. from_first (l ++ ys) ≡ l ++ ys) (from_first xs) (x ∷ xs) (λ t. pad_first xs ys (rw t at e)) (λ t. rw t)

moved_left_first : (xs : List ℕ) → blank xs ≡ false → from_first (moved_left xs) ≡ moved_left xs
unfolding moved_left
moved_left_first xs e = pad_first xs (replicate (length xs - length (from_first xs)) 0x40) e

pad_last : (n : ℕ) (ys : List ℕ) → up_to_last (ys ++ replicate n 0x40) ≡ up_to_last ys
pad_last zero ys = rw append-nil
pad_last (suc n) ys = ap up_to_last (sym (append_assoc ys (0x40 ∷ []) (replicate n 0x40))) ∙ pad_last n (ys ++ 0x40 ∷ []) ∙ last_blank ys 0x40 refl

moved_left_trimmed : (xs : List ℕ) → blank xs ≡ false → trimmed (moved_left xs) ≡ trimmed xs
unfolding trimmed moved_left
moved_left_trimmed xs e = ap up_to_last (moved_left_first xs e) ∙ pad_last (length xs - length (from_first xs)) (from_first xs)

zeros_first : (n : ℕ) (ys : List ℕ) → from_first ys ≡ ys → from_first (replicate n 0xF0 ++ ys) ≡ replicate n 0xF0 ++ ys
unfolding from_first choose
zeros_first zero ys e = e
zeros_first (suc n) ys e = refl

zeros_last : (n : ℕ) (ys : List ℕ) → up_to_last ys ≡ ys → up_to_last (replicate n 0xF0 ++ ys) ≡ replicate n 0xF0 ++ ys
unfolding up_to_last only every ◌and◌ choose
zeros_last zero ys e = e
zeros_last (suc n) ys e = ap (λ (l : List ℕ). 0xF0 ∷ l) (zeros_last n ys e)

trimmed_first : (xs : List ℕ) → from_first (trimmed xs) ≡ trimmed xs
unfolding trimmed from_first up_to_last only every ◌and◌ choose
trimmed_first [] = refl
trimmed_first (x ∷ xs) =
    choice (eqb x 0x40) (λ l. from_first (up_to_last l) ≡ up_to_last l) (from_first xs) (x ∷ xs) (λ t. trimmed_first xs) (λ t. rw (t, t))

up_to_last_last : (xs : List ℕ) → up_to_last (up_to_last xs) ≡ up_to_last xs
unfolding up_to_last only every choose
up_to_last_last [] = refl
up_to_last_last (x ∷ xs) =
    choice (blank (x ∷ xs)) (λ l. up_to_last l ≡ l) [] (x ∷ up_to_last xs) (λ t. refl)
    (λ t. rw (up_to_last_blank xs, t, up_to_last_last xs))

moved_right_stays : (j : Justification) (xs : List ℕ) → corrected j (moved_right xs) ≡ moved_right xs
unfolding moved_right trimmed
moved_right_stays j xs =
    let n = length xs - length (trimmed xs) in
    kept j (moved_right xs) (zeros_first n (trimmed xs) (trimmed_first xs)) (zeros_last n (trimmed xs) (up_to_last_last (from_first xs)))

moved_left_stays : (xs : List ℕ) → blank xs ≡ false → digits (trimmed xs) ≡ false → corrected Number (moved_left xs) ≡ moved_left xs
unfolding corrected zero_padded choose
moved_left_stays xs e d = rw (moved_left_filled xs e, moved_left_trimmed xs e, d) (moved_left_kept (moved_left xs) (moved_left_first xs e))

-- correcting twice is correcting once
pub corrected_twice : (j : Justification) (xs : List ℕ) → corrected j (corrected j xs) ≡ corrected j xs
unfolding corrected zero_padded choose
corrected_twice Text xs = go (blank xs) refl
  where
    go : (b : Bool) → blank xs ≡ b → moved_left (moved_left xs) ≡ moved_left xs
    go true t = ap moved_left (moved_left_blank xs t)
    go false t = moved_left_kept (moved_left xs) (moved_left_first xs t)
corrected_twice Number xs =
    choice (blank xs) (λ l. corrected Number l ≡ l) xs (zero_padded xs) (λ t. rw t)
    (λ t. choice (digits (trimmed xs)) (λ l. corrected Number l ≡ l) (moved_right xs) (moved_left xs)
    (λ d. moved_right_stays Number xs) (λ d. moved_left_stays xs t d))
corrected_twice Right xs = choice (blank xs) (λ l. corrected Right l ≡ l) xs (moved_right xs) (λ t. rw t) (λ t. moved_right_stays Right xs)
corrected_twice Fixed xs = refl

-- a value that needs no correction is unchanged
pub corrected_stays : (j : Justification) (xs : List ℕ) → in_place j xs ≡ true → corrected j xs ≡ xs
unfolding in_place in_front in_back corrected
corrected_stays Text xs e = moved_left_kept xs (first_kept xs (and_left _ _ e))
corrected_stays Number xs e = kept Number xs (first_kept xs (and_left _ _ e)) (last_kept xs (and_right (filled (get_or xs 0 0x40)) _ e))
corrected_stays Right xs e = kept Right xs (first_kept xs (and_left _ _ e)) (last_kept xs (and_right (filled (get_or xs 0 0x40)) _ e))
corrected_stays Fixed xs e = refl

-- an all blank value is unchanged
pub corrected_all_blank : (j : Justification) (xs : List ℕ) → blank xs ≡ true → corrected j xs ≡ xs
unfolding corrected choose
corrected_all_blank Text xs e = moved_left_blank xs e
corrected_all_blank Number xs e = rw e
corrected_all_blank Right xs e = rw e
corrected_all_blank Fixed xs e = refl

-- a value is all blank after the correction exactly where it is before
pub blank_corrected : (j : Justification) (xs : List ℕ) → blank (corrected j xs) ≡ blank xs
blank_corrected j xs = go (blank xs) refl
  where
    go : (b : Bool) → blank xs ≡ b → blank (corrected j xs) ≡ blank xs
    go true t = ap (λ (l : List ℕ). blank l) (corrected_all_blank j xs t)
    go false t = ways (λ l. blank l ≡ false) j xs t (moved_left_filled xs t) (moved_right_filled xs t) ∙ sym t

numeral_zeros : (n : ℕ) (ys : List ℕ) → numeral (replicate n 0xF0 ++ ys) ≡ numeral ys
unfolding numeral numeral_from
numeral_zeros zero ys = refl
numeral_zeros (suc n) ys = numeral_zeros n ys

digits_zeros : (n : ℕ) (ys : List ℕ) → digits ys ≡ true → digits (replicate n 0xF0 ++ ys) ≡ true
unfolding digits every digit ◌and◌
digits_zeros zero ys e = e
digits_zeros (suc n) ys e = digits_zeros n ys e

digit_filled : (x : ℕ) → digit x ≡ true → eqb x 0x40 ≡ false
unfolding digit
digit_filled x e = ne_eqb x 0x40 (λ q. omega (arith, leb-true 0xF0 x (and_left _ _ e)))

-- digits begin with no blank
pub digits_first : (xs : List ℕ) → digits xs ≡ true → from_first xs ≡ xs
unfolding digits every from_first choose
digits_first [] e = refl
digits_first (x ∷ xs) e = rw (digit_filled x (and_left _ _ e))

-- digits end with no blank
pub digits_last : (xs : List ℕ) → digits xs ≡ true → up_to_last xs ≡ xs
unfolding digits every up_to_last only ◌and◌ choose
digits_last [] e = refl
digits_last (x ∷ xs) e = rw (digit_filled x (and_left _ _ e), digits_last xs (and_right (digit x) (every digit xs) e))

module _ (xs : List ℕ) (d : digits (trimmed xs) ≡ true) (b : blank xs ≡ false) where
  padded : corrected Number xs ≡ replicate (length xs - length (trimmed xs)) 0xF0 ++ trimmed xs
  unfolding corrected zero_padded moved_right choose
  padded = rw (b, d)

  -- digits with blanks around them write the same number after the correction
  pub padded_numeral : numeral (corrected Number xs) ≡ numeral (trimmed xs)
  padded_numeral = ap numeral padded ∙ numeral_zeros (length xs - length (trimmed xs)) (trimmed xs)

  -- digits with blanks around them are digits over the full width after the correction
  pub padded_digits : digits (corrected Number xs) ≡ true
  padded_digits = ap digits padded ∙ digits_zeros (length xs - length (trimmed xs)) (trimmed xs) d

-- digits over the full width are unchanged
pub digits_stay : (xs : List ℕ) → digits xs ≡ true → corrected Number xs ≡ xs
digits_stay xs e = kept Number xs (digits_first xs e) (digits_last xs e)

-- moved left, the bytes from the first that is no blank on stand before as many blanks as stood before them
pub moved_left_is : (xs : List ℕ) (a : ℕ) → from_first xs ≡ drop a xs → a ≤ length xs → moved_left xs ≡ drop a xs ++ replicate a 0x40
unfolding moved_left
moved_left_is xs a f h =
    let n : length xs - length (drop a xs) ≡ a = omega (arith, length-drop a xs) in
    rw (f, n)

module _ (xs : List ℕ) (a b : ℕ) (f : from_first xs ≡ drop a xs) (g : up_to_last (drop a xs) ≡ slice a b xs) (h : a ≤ b) (k : b ≤ length xs) where
  -- without the blanks at both ends, the bytes from the first to the last that is no blank remain
  pub trimmed_is : trimmed xs ≡ slice a b xs
  unfolding trimmed
  trimmed_is = rw (f, g)

  -- moved right, the bytes from the first to the last that is no blank stand behind zeros
  pub moved_right_is : moved_right xs ≡ replicate (length xs - (b - a)) 0xF0 ++ slice a b xs
  unfolding moved_right
  moved_right_is = rw (trimmed_is, length-slice a b xs k)

-- a value whose first byte that is no blank was not found is all blank
pub led_blank : (xs : List ℕ) (a : ℕ) → from_first xs ≡ drop a xs → length xs ≤ a → blank xs ≡ true
unfolding only every
led_blank xs a f h = sym (from_first_blank xs) ∙ rw (f, drop_of_length-le xs)

-- a value whose first byte that is no blank was found is not all blank
pub led_filled : (xs : List ℕ) (a : ℕ) → from_first xs ≡ drop a xs → a < length xs → blank xs ≡ false
led_filled xs a f h = go (blank xs) refl
  where
    go : (b : Bool) → blank xs ≡ b → b ≡ false
    go true t =
        let e : length (drop a xs) ≡ 0 = ap length (sym f ∙ blank_first xs t) in
        absurd (omega (arith, length-drop a xs))
    go false t = refl
