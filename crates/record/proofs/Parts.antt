-- A value in parts, side by side: zeros, a part and blanks.
-- Assumes nothing.
use mathlib.Core.Path.{◌≡◌, refl, ◌∙◌}
use mathlib.Core.Bool.{Bool, true, false, not}
use mathlib.Core.List.{List, [], ◌∷◌, ◌++◌, append-nil}
use Prim.Native.Nat.{ℕ, zero, suc, ◌+◌, ◌-◌, ◌<◌}
use native.Mathlib.Nat.{zero-sub, sub-zero, suc-sub-suc, not-suc-le-zero}
use borrow.Author.Tests.{not-true}
use lib.Dec.{eqb}
use lib.ListN.{length, get_or, replicate, get_or-append}
use lib.Seq.{slice, drop-nil, get_or-append-add}
use Rattle.record.specs.declared.Justification.{Justification}
use Rattle.record.specs.Choice.{◌and◌, choose}
use Rattle.record.specs.Tests.{every, only, digits}
use Rattle.record.specs.Numeral.{numeral, numeral_from}
use Rattle.record.specs.Correction.{from_first, up_to_last, corrected}
use Rattle.record.proofs.Chain.{and_left, and_right, and_false}
use Rattle.record.proofs.Corrected.{kept, digits_first, digits_last}

-- zeros that pass a test decide nothing: what follows them does
pub every_zeros : (q : ℕ → Bool) (z : ℕ) (ks : List ℕ) → q 0xF0 ≡ true → every q (replicate z 0xF0 ++ ks) ≡ every q ks
unfolding every ◌and◌
every_zeros q zero ks e = refl
every_zeros q (suc z) ks e = rw e (every_zeros q z ks e)

-- with no blank behind it, the part decides
pub every_whole_part : (q : ℕ → Bool) (z b : ℕ) (ks : List ℕ) → q 0xF0 ≡ true → b ≡ 0
    → every q (replicate z 0xF0 ++ (ks ++ replicate b 0x40)) ≡ every q ks
every_whole_part q z b ks e h = rw (h, append-nil) (every_zeros q z ks e)

every_behind : (q : ℕ → Bool) (xs ys : List ℕ) → every q ys ≡ false → every q (xs ++ ys) ≡ false
unfolding every
every_behind q [] ys e = e
every_behind q (x ∷ xs) ys e = rw (every_behind q xs ys e) (and_false (q x))

-- a blank behind the part fails a test that no blank passes
pub every_blank_behind : (q : ℕ → Bool) (z b : ℕ) (ks : List ℕ) → q 0x40 ≡ false → 0 < b
    → every q (replicate z 0xF0 ++ (ks ++ replicate b 0x40)) ≡ false
unfolding every ◌and◌
every_blank_behind q z zero ks e h = absurd (not-suc-le-zero h)
every_blank_behind q z (suc b) ks e h =
    every_behind q (replicate z 0xF0) (ks ++ replicate (suc b) 0x40) (every_behind q ks (replicate (suc b) 0x40) (rw e))

-- zeros in front count nothing, in whatever is cut out
pub zeros_count_nothing : (z from to : ℕ) (ks : List ℕ) → numeral (slice from to (replicate z 0xF0 ++ ks)) ≡ numeral (slice (from - z) (to - z) ks)
unfolding numeral numeral_from
zeros_count_nothing zero from to ks = rw (sub-zero from, sub-zero to)
zeros_count_nothing (suc z) from zero ks = rw (zero-sub (suc z), drop-nil from, drop-nil (from - suc z))
zeros_count_nothing (suc z) zero (suc to) ks = zeros_count_nothing z zero to ks ∙ rw (zero-sub z, zero-sub (suc z), suc-sub-suc to z)
zeros_count_nothing (suc z) (suc from) (suc to) ks = zeros_count_nothing z from to ks ∙ rw (suc-sub-suc from z, suc-sub-suc to z)

filled_first : (xs : List ℕ) → every (λ (x : ℕ). not (eqb x 0x40)) xs ≡ true → from_first xs ≡ xs
unfolding every from_first choose
filled_first [] e = refl
filled_first (x ∷ xs) e = rw (not-true (eqb x 0x40) (and_left _ _ e))

filled_last : (xs : List ℕ) → every (λ (x : ℕ). not (eqb x 0x40)) xs ≡ true → up_to_last xs ≡ xs
unfolding every only up_to_last ◌and◌ choose
filled_last [] e = refl
filled_last (x ∷ xs) e =
    let t : eqb x 0x40 ≡ false = not-true (eqb x 0x40) (and_left _ _ e) in
    rw (t, filled_last xs (and_right (not (eqb x 0x40)) _ e))

-- a value with no blank is unchanged, whatever its justification
pub filled_stays : (j : Justification) (xs : List ℕ) → every (λ (x : ℕ). not (eqb x 0x40)) xs ≡ true → corrected j xs ≡ xs
filled_stays j xs e = kept j xs (filled_first xs e) (filled_last xs e)

-- digits over the full width are unchanged, whatever the justification
pub digits_stand : (j : Justification) (xs : List ℕ) → digits xs ≡ true → corrected j xs ≡ xs
digits_stand j xs e = kept j xs (digits_first xs e) (digits_last xs e)

-- an index in the first of three parts
pub at_first : (zs ks bs : List ℕ) (i : ℕ) → i < length zs → get_or (zs ++ (ks ++ bs)) i 0 ≡ get_or zs i 0
at_first zs ks bs i h = get_or-append zs (ks ++ bs) 0 i h

-- an index in the second
pub at_second : (zs ks bs : List ℕ) (i j : ℕ) → i ≡ length zs + j → j < length ks → get_or (zs ++ (ks ++ bs)) i 0 ≡ get_or ks j 0
at_second zs ks bs i j e h = rw (e, get_or-append-add zs (ks ++ bs) j 0, get_or-append ks bs 0 j h)

-- an index in the third
pub at_third : (zs ks bs : List ℕ) (i j : ℕ) → i ≡ length zs + (length ks + j) → get_or (zs ++ (ks ++ bs)) i 0 ≡ get_or bs j 0
at_third zs ks bs i j e = rw (e, get_or-append-add zs (ks ++ bs) (length ks + j) 0, get_or-append-add ks bs j 0)
