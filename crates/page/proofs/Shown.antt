-- Bytes as the rules see them: as many, part by part and byte by byte; and what the first two bytes say of a file.
-- Assumes nothing.
use mathlib.Core.Path.{◌≡◌, refl, ap, sym, ◌∙◌}
use mathlib.Core.Bool.{Bool, true, false, true≢false}
use Rattle.std.specs.Prelude.{nat_eq}
use Rattle.std.specs.List.{starts_with}
use Rattle.std.proofs.lemmas.Bool.Decides.{nat_tests}
use mathlib.Core.List.{List, [], ◌∷◌, ◌++◌, map, append-nil, append_assoc}
use Prim.Native.Nat.{ℕ, zero, suc, ◌+◌, ◌/◌, ◌≤◌, ◌<◌}
use native.Mathlib.Nat.{le_of_suc-le-suc, not-suc-le-zero}
use native.Mathlib.Omega.{arith}
use lib.Dec.{eqb}
use lib.ListN.{length, take, drop, get_or, set, length-append, length-take, length-drop, drop_of_length-le}
use lib.Seq.{drop-cons, take-suc, take_all}
use borrow.Author.Tests.{ne_eqb, eqb-true}
use Rattle.page.specs.CodePage.{code_page, ebcdic, shown, is_ascii, translated}
use Rattle.page.proofs.CodePage.{both_left, ebcdic_byte}

-- of each byte
abbrev pub shown_byte : Bool → ℕ → ℕ
shown_byte true b = ebcdic b
shown_byte false b = b

-- bytes that are not ASCII are as they are
pub shown_plain : (xs : List ℕ) → shown false xs ≡ xs
unfolding shown
shown_plain xs = refl

pub shown_length : (ascii : Bool) (xs : List ℕ) → length (shown ascii xs) ≡ length xs
unfolding shown
shown_length false xs = refl
shown_length true [] = refl
shown_length true (x ∷ xs) = ap suc (shown_length true xs)

pub shown_least : (ascii : Bool) (xs : List ℕ) (n : ℕ) → n ≤ length xs → n ≤ length (shown ascii xs)
shown_least ascii xs n h = rw (shown_length ascii xs) h

pub shown_most : (ascii : Bool) (xs : List ℕ) (n : ℕ) → length xs ≤ n → length (shown ascii xs) ≤ n
shown_most ascii xs n h = rw (shown_length ascii xs) h

pub sent_least : (ascii : Bool) (xs : List ℕ) (n : ℕ) → n ≤ length (shown ascii xs) → n ≤ length xs
sent_least ascii xs n h = rw (← shown_length ascii xs) h

pub sent_most : (ascii : Bool) (xs : List ℕ) (n : ℕ) → length (shown ascii xs) ≤ n → length xs ≤ n
sent_most ascii xs n h = rw (← shown_length ascii xs) h

pub shown_records : (ascii : Bool) (xs : List ℕ) (n : ℕ) → n ≡ length xs / 850 → n ≡ length (shown ascii xs) / 850
shown_records ascii xs n e = rw (shown_length ascii xs) e

pub shown_take : (ascii : Bool) (n : ℕ) (xs : List ℕ) → shown ascii (take n xs) ≡ take n (shown ascii xs)
unfolding shown
shown_take false n xs = refl
shown_take true zero xs = refl
shown_take true (suc n) [] = refl
shown_take true (suc n) (x ∷ xs) = ap (◌∷◌ (ebcdic x)) (shown_take true n xs)

pub shown_drop : (ascii : Bool) (n : ℕ) (xs : List ℕ) → shown ascii (drop n xs) ≡ drop n (shown ascii xs)
unfolding shown
shown_drop false n xs = refl
shown_drop true zero xs = refl
shown_drop true (suc n) [] = refl
shown_drop true (suc n) (x ∷ xs) = shown_drop true n xs

pub shown_at : (ascii : Bool) (xs : List ℕ) (i : ℕ) → i < length xs → get_or (shown ascii xs) i 0 ≡ shown_byte ascii (get_or xs i 0)
unfolding shown
shown_at false xs i h = refl
shown_at true [] i h = absurd (not-suc-le-zero h)
shown_at true (x ∷ xs) zero h = refl
shown_at true (x ∷ xs) (suc i) h = shown_at true xs i (le_of_suc-le-suc h)

pub shown_bytes : (ascii : Bool) (xs : List ℕ) → ((i : ℕ) → get_or xs i 0 < 256) → (i : ℕ) → get_or (shown ascii xs) i 0 < 256
unfolding shown
shown_bytes false xs h i = h i
shown_bytes true [] h i = h i
shown_bytes true (x ∷ xs) h zero = ebcdic_byte x
shown_bytes true (x ∷ xs) h (suc i) = shown_bytes true xs (λ j. h (suc j)) i

-- a byte among others: what it is, and another in its place
at_seam : (xs ys : List ℕ) (y : ℕ) → get_or (xs ++ y ∷ ys) (length xs) 0 ≡ y
at_seam [] ys y = refl
at_seam (x ∷ xs) ys y = at_seam xs ys y

pub set_seam : (xs ys : List ℕ) (y z : ℕ) → set (xs ++ y ∷ ys) (length xs) z ≡ xs ++ z ∷ ys
set_seam [] ys y z = refl
set_seam (x ∷ xs) ys y z = ap (◌∷◌ x) (set_seam xs ys y z)

-- the first bytes are translated
pub record Replaced (before bytes : List ℕ) (i : ℕ) : Type 0 where
  pub within : i ≤ length before
  pub done : bytes ≡ shown true (take i before) ++ drop i before

pub replaced_none : (bytes : List ℕ) → Replaced bytes bytes 0
unfolding shown
replaced_none bytes = record { within = omega arith; done = refl }

module _ (before bytes : List ℕ) (i : ℕ) (c : Replaced before bytes i) where
  front : List ℕ
  front = shown true (take i before)

  front_length : length front ≡ i
  unfolding front
  front_length = simp (shown_length, length-take) (omega (arith, c.within))

  pub replaced_length : length bytes ≡ length before
  unfolding front
  replaced_length = rw c.done (simp (length-append, length-drop) (omega (arith, front_length, c.within)))

  module _ (h : i < length bytes) where
    bound : i < length before
    bound = omega (arith, h, replaced_length)

    apart : bytes ≡ front ++ get_or before i 0 ∷ drop (suc i) before
    unfolding front
    apart = c.done ∙ ap (λ (xs : List ℕ). front ++ xs) (drop-cons before i 0 bound)

    -- the next byte is as it was
    pub replaced_left : get_or bytes i 0 ≡ get_or before i 0
    replaced_left = ap (λ (xs : List ℕ). get_or xs i 0) apart ∙ ap (λ (n : ℕ). get_or (front ++ get_or before i 0 ∷ drop (suc i) before) n 0) (sym front_length) ∙ at_seam front (drop (suc i) before) (get_or before i 0)

  pub replaced_next : (y : ℕ) → i < length bytes → y ≡ ebcdic (get_or bytes i 0) → Replaced before (set bytes i y) (i + 1)
  unfolding front
  replaced_next y h t =
      let l = bound h in
      let rest = drop (suc i) before in
      let d = apart h in
      let b = replaced_left h in
      let e : set bytes i y ≡ front ++ y ∷ rest =
      ap (λ (xs : List ℕ). set xs i y) d ∙ ap (λ (n : ℕ). set (front ++ get_or before i 0 ∷ rest) n y) (sym front_length) ∙ set_seam front rest (get_or before i 0) y in
      let s : shown true (take (suc i) before) ≡ front ++ y ∷ [] =
      shown_take true (suc i) before ∙ take-suc (shown true before) i 0 (omega (arith, shown_length true before, l)) ∙ rw (shown_at true before i l, t, b, shown_take true i before) in
      let n : i + 1 ≡ suc i = omega arith in
      record {
        within = omega arith;
        done = e ∙ rw (n, s) (sym (append_assoc front (y ∷ []) rest));
      }

  pub replaced_all : length bytes ≤ i → bytes ≡ shown true before
  replaced_all h =
      let e : i ≡ length before = omega (arith, replaced_length, c.within) in
      c.done ∙ rw (e, take_all (length before) before (omega arith), drop_of_length-le before {i = length before} (omega arith)) (append-nil (shown true before))

-- the first two bytes tell
pub starts_tell : (xs : List ℕ) → starts_with nat_eq xs (0x46 ∷ 0x48 ∷ []) ≡ is_ascii xs
unfolding is_ascii
starts_tell [] = refl
starts_tell (x ∷ []) = grind (arith, nat_tests)
starts_tell (x ∷ y ∷ xs) = grind (arith, nat_tests)

other_first : (xs : List ℕ) → (get_or xs 0 0 ≡ 0x46 → ⊥) → false ≡ is_ascii xs
unfolding is_ascii
other_first [] h = refl
other_first (x ∷ []) h = refl
other_first (x ∷ y ∷ xs) h = rw (ne_eqb x 0x46 h)

-- the whole file: as long; the same where it is not ASCII; and never ASCII itself, so that translating twice is translating once
pub translated_length : (file : List ℕ) → length (translated file) ≡ length file
unfolding translated
translated_length file = shown_length (is_ascii file) file

pub translated_is : (file : List ℕ) (ascii : Bool) → ascii ≡ is_ascii file → shown ascii file ≡ translated file
unfolding translated
translated_is file ascii e = rw e

pub translated_other : (file : List ℕ) → is_ascii file ≡ false → translated file ≡ file
unfolding translated shown
translated_other file e = rw e

-- FH in ASCII becomes FH in EBCDIC, which is not FH in ASCII
first_ascii : (xs : List ℕ) → is_ascii xs ≡ true → get_or xs 0 0 ≡ 0x46
unfolding is_ascii
first_ascii [] e = absurd (true≢false (sym e))
first_ascii (x ∷ []) e = absurd (true≢false (sym e))
first_ascii (x ∷ y ∷ xs) e = eqb-true x 0x46 (both_left (eqb x 0x46) (eqb y 0x48) e)

first_ebcdic : ebcdic 0x46 ≡ 0xC6
unfolding ebcdic code_page
first_ebcdic = refl

ascii_plain : (xs : List ℕ) → is_ascii xs ≡ true → is_ascii (shown true xs) ≡ false
unfolding shown
ascii_plain [] e = sym (other_first [] (λ q. absurd (omega arith)))
ascii_plain (x ∷ xs) e =
    let b : ebcdic x ≡ 0xC6 = ap ebcdic (first_ascii (x ∷ xs) e) ∙ first_ebcdic in
    sym (other_first (ebcdic x ∷ map ebcdic xs) (λ q. let z : 0xC6 ≡ 0x46 = sym b ∙ q in absurd (omega arith)))

pub translated_plain : (file : List ℕ) → is_ascii (translated file) ≡ false
unfolding translated
translated_plain file = go (is_ascii file) refl
  where
    go : (ascii : Bool) → is_ascii file ≡ ascii → is_ascii (shown (is_ascii file) file) ≡ false
    go true e = rw e (ascii_plain file e)
    go false e = ap is_ascii (translated_other file e) ∙ e

pub translated_twice : (file : List ℕ) → translated (translated file) ≡ translated file
translated_twice file = translated_other (translated file) (translated_plain file)
