-- A number read from its greatest byte on: the bytes read so far write it.
-- Assumes nothing.
use mathlib.Core.Path.{◌≡◌, ap, ◌∙◌}
use mathlib.Core.List.{List, [], ◌∷◌, reverse}
use Prim.Native.Nat.{ℕ, suc, ◌+◌, ◌-◌, ◌*◌, ◌^◌, ◌<◌, ◌≤◌}
use native.Mathlib.Nat.{pow-suc, pow-le-pow_right}
use native.Mathlib.Omega.{arith}
use lib.ListN.{length, drop, get_or, drop_of_length-le}
use lib.Seq.{drop-cons}
use Rattle.std.proofs.lemmas.List.{length-reverse, get_or-reverse, get_or_default}
use Rattle.numbers.specs.Numbers.{number_in}

-- the bytes from i on write the number, which fits them
pub record Read (part : List ℕ) (i number : ℕ) : Type 0 where
  pub is : number ≡ number_in (drop i part)
  pub small : number < 256 ^ (length part - i)

pub read_none : (part : List ℕ) → Read part (length part - 0) 0
unfolding number_in
read_none part =
    let n : length part - 0 ≡ length part = omega arith in
    let e : drop (length part) part ≡ [] = drop_of_length-le part {i = length part} (omega arith) in
    let z : length part - length part ≡ 0 = omega arith in
    rw n (record { is = rw e; small = rw z (omega arith) })

module _ {part : List ℕ} {i number : ℕ} (r : Read part i number) (some : 0 < i) (fits : i ≤ length part) where
  -- seven bytes at most are read before the last
  pub room : length part ≤ 8 → number < 72057594037927936
  room h =
      let j : length part - i ≤ 7 = omega arith in
      omega (arith, r.small, pow-le-pow_right {n = 256} (omega arith) j)

  -- one byte more
  pub read_next : (x : ℕ) → x ≡ get_or part (i - 1) 0 → x < 256 → Read part (i - 1) (number * 256 + x)
  unfolding number_in
  read_next x e l =
      let s : suc (i - 1) ≡ i = omega arith in
      let d : drop (i - 1) part ≡ get_or part (i - 1) 0 ∷ drop i part = rw s at (drop-cons part (i - 1) 0 (omega arith)) in
      let w : length part - (i - 1) ≡ suc (length part - i) = omega arith in
      record { is = rw d (omega (arith, r.is, e)); small = rw (w, pow-suc) (omega (arith, r.small)) }

-- the byte that comes next from behind
module _ {part : List ℕ} {k number x : ℕ} (r : Read part (length part - k) number) (t : (k < length (reverse part)) × (x ≡ get_or (reverse part) k x)) where
  left : k < length part
  left = omega (arith, t.0, length-reverse part)

  x_is : x ≡ get_or part (length part - k - 1) 0
  x_is =
      let h = left in
      let n : length part - 1 - k ≡ length part - k - 1 = omega arith in
      let b : length part - k - 1 < length part = omega arith in
      t.1 ∙ get_or-reverse part k x h ∙ ap (λ (i : ℕ). get_or part i x) n ∙ get_or_default part _ x 0 b

  pub turn_room : length part ≤ 8 → number < 72057594037927936
  turn_room h = room r (omega (arith, left)) (omega arith) h

  pub turn : (m : ℕ) → m ≡ k + 1 → (y : ℕ) → y ≡ x → y < 256 → Read part (length part - m) (number * 256 + y)
  turn m e y q l =
      let n : length part - m ≡ length part - k - 1 = omega (arith, e) in
      rw n (read_next r (omega (arith, left)) (omega arith) y (q ∙ x_is) l)
