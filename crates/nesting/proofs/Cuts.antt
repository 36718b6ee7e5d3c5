-- The records of a file: whole, as many as there are, side by side the file again; those of a part of it; and each by its place.
-- Assumes nothing.
use mathlib.Core.Path.{◌≡◌, refl, ◌∙◌, ap}
use mathlib.Core.Bool.{Bool}
use mathlib.Core.List.{List, [], ◌∷◌, ◌++◌}
use Prim.Native.Nat.{ℕ, zero, suc, ◌+◌, ◌*◌, ◌/◌, ◌-◌, ◌<◌, ◌≤◌}
use native.Mathlib.Omega.{arith}
use lib.ListN.{length, take, drop, get_or, length-take, length-drop, take-append-drop}
use lib.Seq.{take-take, drop-drop, take-add, drop_at, length-take-le}
use Rattle.page.specs.CodePage.{shown}
use Rattle.record.specs.Value.{seen}
use Rattle.page.proofs.Shown.{shown_plain, shown_take, shown_drop}
use Rattle.nesting.specs.Division.{Record, All, Whole}
use Rattle.nesting.specs.Records.{line_of, cut, record_at, records, joined, Cuttable}
use Rattle.nesting.proofs.Wholes.{Bytes, all_take, all_drop}

pub cut_length : (n k : ℕ) (xs : List ℕ) → length (cut n k xs) ≡ k
unfolding cut
cut_length n zero xs = refl
cut_length n (suc k) xs = ap suc (cut_length (n + 1) k (drop 850 xs))

-- every record of a file is whole
bytes_of : (xs : List ℕ) → ((i : ℕ) → get_or xs i 0 < 256) → Bytes xs
bytes_of [] h = tt
bytes_of (x ∷ xs) h = (h 0, bytes_of xs (λ i. h (suc i)))

cut_whole : (n k : ℕ) (xs : List ℕ) → k * 850 ≤ length xs → Bytes xs → All Whole (cut n k xs)
unfolding cut
cut_whole n zero xs h b = tt
cut_whole n (suc k) xs h b = (
  rw shown_plain (record { size = length-take-le 850 xs (omega arith); bytes = all_take (λ x. x < 256) 850 xs b }),
  cut_whole (n + 1) k (drop 850 xs) (rw length-drop (omega arith)) (all_drop (λ x. x < 256) 850 xs b),
)

pub records_whole : (f : List ℕ) → ((i : ℕ) → get_or f i 0 < 256) → All Whole (records f)
unfolding records
records_whole f h = cut_whole 1 (length f / 850) f (omega arith) (bytes_of f h)

-- the records of a file, side by side, are the file
cut_joined : (n k : ℕ) (xs : List ℕ) → length xs ≡ k * 850 → joined (cut n k xs) ≡ xs
unfolding cut joined
cut_joined n zero (x ∷ xs) h = absurd (omega arith)
cut_joined n zero [] h = refl
cut_joined n (suc k) xs h =
    rw (shown_plain, cut_joined (n + 1) k (drop 850 xs) (rw length-drop (omega arith))) (take-append-drop 850 xs)

pub records_joined : (f : List ℕ) → Cuttable f → joined (records f) ≡ f
unfolding records
records_joined f w = cut_joined 1 (length f / 850) f (omega (arith, w.whole))

-- the bytes of the record that begins at `at`, as the code takes them, and the record with this number that they are
abbrev pub bytes_from : List ℕ → ℕ → List ℕ
bytes_from f at = take (at + 850 - at) (drop at f)

pub from_length : (f : List ℕ) (at : ℕ) → at + 850 ≤ length f → length (bytes_from f at) ≡ 850
from_length f at h = simp (length-take, length-drop) (omega arith)

abbrev pub record_from : Bool → List ℕ → ℕ → Record
record_from ascii f at = shown ascii (bytes_from f at)

pub from_seen : (ascii : Bool) (f : List ℕ) (number at : ℕ) → record_from ascii f at ≡ seen (line_of number) (take 850 (drop at (shown ascii f)))
from_seen ascii f number at =
    let k : at + 850 - at ≡ 850 = omega arith in
    rw (k, shown_plain) (shown_take ascii 850 (drop at f) ∙ ap (take 850) (shown_drop ascii at f))

-- where one more record is left
pub cut_next : (ascii : Bool) (f : List ℕ) (number at count : ℕ)
    → cut number (suc count) (drop at (shown ascii f)) ≡ record_from ascii f at ∷ cut (number + 1) count (drop (at + 850) (shown ascii f))
unfolding cut
cut_next ascii f number at count = rw (from_seen ascii f number at, drop-drop 850 at (shown ascii f))

-- the records from a place on
cut_drop : (n i m : ℕ) (xs : List ℕ) → drop i (cut n (i + m) xs) ≡ cut (n + i) m (drop (i * 850) xs)
unfolding cut
cut_drop n zero m xs =
    let e : 0 + m ≡ m = omega arith in
    let f : n + 0 ≡ n = omega arith in
    rw (e, f)
cut_drop n (suc i) m xs =
    let e : suc i + m ≡ suc (i + m) = omega arith in
    let f : n + 1 + i ≡ n + suc i = omega arith in
    let g : 850 + i * 850 ≡ suc i * 850 = omega arith in
    rw e (cut_drop (n + 1) i m (drop 850 xs) ∙ rw (drop-drop (i * 850) 850 xs, f, g))

-- the first records
cut_take : (n j m : ℕ) (xs : List ℕ) → (j + m) * 850 ≤ length xs → take j (cut n (j + m) xs) ≡ cut n j (take (j * 850) xs)
unfolding cut
cut_take n zero m xs h = refl
cut_take n (suc j) m xs h =
    let e : suc j + m ≡ suc (j + m) = omega arith in
    let g : suc j * 850 ≡ 850 + j * 850 = omega arith in
    let t : drop 850 (take (850 + j * 850) xs) ≡ take (j * 850) (drop 850 xs) =
    rw (take-add 850 (j * 850) xs) (drop_at (take 850 xs) (take (j * 850) (drop 850 xs)) 850 (length-take-le 850 xs (omega arith))) in
    rw (e, g, t, take-take 850 (850 + j * 850) xs (omega arith))
    (ap (◌∷◌ (seen (line_of n) (take 850 xs))) (cut_take (n + 1) j m (drop 850 xs) (rw length-drop (omega arith))))

-- j records from the record after i: cut from their own part of the bytes
pub cut_part : (n i j k : ℕ) (xs : List ℕ) → i + j ≤ k → k * 850 ≤ length xs → take j (drop i (cut n k xs)) ≡ cut (n + i) j (take (j * 850) (drop (i * 850) xs))
cut_part n i j k xs h w =
    let e : k ≡ i + (j + (k - i - j)) = omega arith in
    rw e
    (rw (cut_drop n i (j + (k - i - j)) xs) (cut_take (n + i) j (k - i - j) (drop (i * 850) xs) (rw length-drop (omega arith))))

-- the record at a place, as the code takes it
pub from_place : (ascii : Bool) (first place : ℕ) (xs : List ℕ) → record_from ascii xs (place * 850) ≡ record_at first place (shown ascii xs)
unfolding record_at
from_place ascii first place xs = from_seen ascii xs (first + place) (place * 850)

-- the records from a place on: so many
abbrev pub onward : ℕ → ℕ → ℕ → List ℕ → List Record
onward first place count xs = cut (first + place) count (drop (place * 850) xs)

pub cut_onward : (first place count : ℕ) (xs : List ℕ) → onward first place (suc count) xs ≡ record_at first place xs ∷ onward first (place + 1) count xs
unfolding cut record_at
cut_onward first place count xs =
    let e : place * 850 + 850 ≡ (place + 1) * 850 = omega arith in
    let f : first + place + 1 ≡ first + (place + 1) = omega arith in
    rw (drop-drop 850 (place * 850) xs, e, f)

pub cut_start : (first count : ℕ) (xs : List ℕ) → cut first count xs ≡ onward first 0 count xs
cut_start first count xs =
    let e : first + 0 ≡ first = omega arith in
    rw e

-- one record more
record_later : (first place : ℕ) (xs : List ℕ) → record_at (first + 1) place (drop 850 xs) ≡ record_at first (suc place) xs
unfolding record_at
record_later first place xs =
    let e : 850 + place * 850 ≡ suc place * 850 = omega arith in
    rw (drop-drop (place * 850) 850 xs, e)

record_first : (first : ℕ) (xs : List ℕ) → seen (line_of first) (take 850 xs) ≡ record_at first 0 xs
unfolding record_at
record_first first xs = refl

pub cut_snoc : (first count : ℕ) (xs : List ℕ) → cut first (count + 1) xs ≡ cut first count xs ++ record_at first count xs ∷ []
unfolding cut
cut_snoc first zero xs = ap (λ (r : Record). r ∷ []) (record_first first xs)
cut_snoc first (suc count) xs =
    let e : suc count + 1 ≡ suc (count + 1) = omega arith in
    rw (e, cut_snoc (first + 1) count (drop 850 xs), record_later first count xs)
