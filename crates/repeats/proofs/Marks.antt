-- Marks in the sieve: a mark that is set stays, and a hash that was given its marks has them.
-- Assumes nothing.
use mathlib.Core.Path.{◌≡◌, refl, sym, ap, ◌∙◌}
use mathlib.Core.Bool.{Bool, true, false, true≢false}
use mathlib.Core.Logic.{◌⊎◌, inl, inr, ⊎_elim}
use mathlib.Core.List.{List}
use Prim.Native.Nat.{ℕ, zero, suc, max, ◌-◌, ◌*◌, ◌/◌, ◌%◌, ◌^◌, ◌≤◌, ◌<◌}
use native.Mathlib.Omega.{arith}
use native.Mathlib.Nat.{pow-le-pow_right, div_self}
use borrow.Author.Tests.{eq-eqb, eqb-true}
use lib.Bits.{bit_or, or_shr, or_step}
use lib.Dec.{eqb}
use lib.ListN.{length, get_or, set, length-set}
use lib.Seq.{get_or-set_same, get_or-set_other}
use Rattle.record.specs.Choice.{◌and◌}
use Rattle.record.proofs.Chain.{and_yes, and_left, and_right}
use Rattle.repeats.specs.Sieve.{marked, is_marked, has_next, with_next, mark_count, has_marks, with_marks}

-- the mask of a slot, as the code makes it
mask_small : (slot : ℕ) → 2 ^ (slot % 64) < 18446744073709551616
mask_small slot = omega (arith, pow-le-pow_right {n = 2} (omega arith) (top slot))
  where
    top : (s : ℕ) → s % 64 ≤ 63
    top s = omega arith

mask_is : (slot : ℕ) → 1 * 2 ^ (slot % 64) % 18446744073709551616 ≡ 2 ^ (slot % 64)
mask_is slot = small (2 ^ (slot % 64)) (mask_small slot)
  where
    small : (x : ℕ) → x < 18446744073709551616 → 1 * x % 18446744073709551616 ≡ x
    small x h = omega arith

pub mark_is : (sieve : List ℕ) (slot : ℕ) → set sieve (slot / 64) (bit_or (get_or sieve (slot / 64) 0) (1 * 2 ^ (slot % 64) % 18446744073709551616)) ≡ marked sieve slot
unfolding marked
mark_is sieve slot = rw (mask_is slot)

-- a bit of a union, and a power's own bit
bit_or_holds : (a b s : ℕ) → bit_or a b / 2 ^ s % 2 ≡ max (a / 2 ^ s % 2) (b / 2 ^ s % 2)
bit_or_holds a b s = rw (or_shr a b s, or_step (a / 2 ^ s) (b / 2 ^ s)) (omega arith)

power_positive : (s : ℕ) → 0 < 2 ^ s
power_positive s =
    let l : 0 ≤ s = omega arith in
    omega (arith, pow-le-pow_right {n = 2} (omega arith) l)

own_bit : (s : ℕ) → 2 ^ s / 2 ^ s % 2 ≡ 1
own_bit s = rw (div_self {n = 2 ^ s} (power_positive s))

max_right : (a b : ℕ) → a < 2 → b ≡ 1 → max a b ≡ 1
max_right a b h e = omega arith

max_left : (a b : ℕ) → a ≡ 1 → b < 2 → max a b ≡ 1
max_left a b e h = omega arith

bit_small : (a : ℕ) → a % 2 < 2
bit_small a = omega arith

same_or_not : (i j : ℕ) → (j ≡ i) ⊎ (j ≡ i → ⊥)
same_or_not i j = go (eqb j i) refl
  where
    go : (b : Bool) → eqb j i ≡ b → (j ≡ i) ⊎ (j ≡ i → ⊥)
    go true e = inl (eqb-true j i e)
    go false e = inr (λ q. true≢false (sym (eq-eqb j i q) ∙ e))

-- one mark in a sieve of 1,024 words
module _ (sieve : List ℕ) (n : length sieve ≡ 1024) (slot : ℕ) (s : slot < 65536) where
  within : slot / 64 < length sieve
  within = omega arith

  mark_own : is_marked (marked sieve slot) slot ≡ true
  unfolding is_marked marked
  mark_own =
      let w = get_or sieve (slot / 64) 0 in
      let m : bit_or w (2 ^ (slot % 64)) / 2 ^ (slot % 64) % 2 ≡ 1 =
      bit_or_holds w (2 ^ (slot % 64)) (slot % 64) ∙ max_right _ _ (bit_small (w / 2 ^ (slot % 64))) (own_bit (slot % 64)) in
      let g : get_or (set sieve (slot / 64) (bit_or w (2 ^ (slot % 64)))) (slot / 64) 0 ≡ bit_or w (2 ^ (slot % 64)) = get_or-set_same sieve (slot / 64) (bit_or w (2 ^ (slot % 64))) 0 within in
      eq-eqb _ 1 (ap (λ (x : ℕ). x / 2 ^ (slot % 64) % 2) g ∙ m)

  mark_keeps : (other : ℕ) → is_marked sieve other ≡ true → is_marked (marked sieve slot) other ≡ true
  unfolding is_marked marked
  mark_keeps other e = ⊎_elim same apart (same_or_not (slot / 64) (other / 64))
    where
      w : ℕ
      w = get_or sieve (slot / 64) 0

      bit : get_or sieve (other / 64) 0 / 2 ^ (other % 64) % 2 ≡ 1
      bit = eqb-true _ 1 e

      v : ℕ
      v = bit_or w (2 ^ (slot % 64))

      same : other / 64 ≡ slot / 64 → eqb (get_or (set sieve (slot / 64) v) (other / 64) 0 / 2 ^ (other % 64) % 2) 1 ≡ true
      same q =
          let b : get_or sieve (slot / 64) 0 / 2 ^ (other % 64) % 2 ≡ 1 = rw (← q) bit in
          let m : v / 2 ^ (other % 64) % 2 ≡ 1 = bit_or_holds w (2 ^ (slot % 64)) (other % 64) ∙ max_left _ _ b (bit_small (2 ^ (slot % 64) / 2 ^ (other % 64))) in
          let g : get_or (set sieve (slot / 64) v) (other / 64) 0 ≡ v = ap (λ (j : ℕ). get_or (set sieve (slot / 64) v) j 0) q ∙ get_or-set_same sieve (slot / 64) v 0 within in
          eq-eqb _ 1 (ap (λ (x : ℕ). x / 2 ^ (other % 64) % 2) g ∙ m)

      apart : (other / 64 ≡ slot / 64 → ⊥) → eqb (get_or (set sieve (slot / 64) v) (other / 64) 0 / 2 ^ (other % 64) % 2) 1 ≡ true
      apart d = eq-eqb _ 1 (ap (λ (x : ℕ). x / 2 ^ (other % 64) % 2) (get_or-set_other sieve (slot / 64) (other / 64) v 0 d) ∙ bit)

mark_length : (sieve : List ℕ) (slot : ℕ) → length sieve ≡ 1024 → length (marked sieve slot) ≡ 1024
unfolding marked
mark_length sieve slot n = length-set sieve (slot / 64) _ ∙ n

-- the marks of a hash, as the code tests and sets them one by one
one_less : (n : ℕ) → n ≡ suc n - 1
one_less n = omega arith

has_next_holds : (sieve : List ℕ) (left rest : ℕ) → 0 < left → has_next sieve left rest ≡ (is_marked sieve (rest % 65536) and has_next sieve (left - 1) (rest / 32))
unfolding has_next
has_next_holds sieve zero rest h = absurd (omega arith)
has_next_holds sieve (suc left) rest h = ap (λ (n : ℕ). is_marked sieve (rest % 65536) and has_next sieve n (rest / 32)) (one_less left)

with_next_holds : (sieve : List ℕ) (left rest : ℕ) → 0 < left → with_next sieve left rest ≡ with_next (marked sieve (rest % 65536)) (left - 1) (rest / 32)
unfolding with_next
with_next_holds sieve zero rest h = absurd (omega arith)
with_next_holds sieve (suc left) rest h = ap (λ (n : ℕ). with_next (marked sieve (rest % 65536)) n (rest / 32)) (one_less left)

module _ (sieve : List ℕ) (hash : ℕ) where
  pub marks_begun : has_marks sieve hash ≡ has_next sieve mark_count hash
  unfolding has_marks
  marks_begun = refl

  pub giving_begun : with_marks sieve hash ≡ with_next sieve mark_count hash
  unfolding with_marks
  giving_begun = refl

  module _ (left rest : ℕ) where
    pub marks_missed : has_marks sieve hash ≡ has_next sieve left rest → 0 < left → is_marked sieve (rest % 65536) ≡ false → false ≡ has_marks sieve hash
    unfolding ◌and◌
    marks_missed e h n = sym (e ∙ has_next_holds sieve left rest h ∙ rw n)

    pub marks_met : has_marks sieve hash ≡ has_next sieve left rest → 0 < left → is_marked sieve (rest % 65536) ≡ true → has_marks sieve hash ≡ has_next sieve (left - 1) (rest / 32)
    unfolding ◌and◌
    marks_met e h n = e ∙ has_next_holds sieve left rest h ∙ rw n

    pub marks_end : has_marks sieve hash ≡ has_next sieve left rest → left ≤ 0 → true ≡ has_marks sieve hash
    unfolding has_next
    marks_end e z =
        let none : left ≡ 0 = omega arith in
        sym (e ∙ rw none)

    pub giving_on : (before after : List ℕ) → with_marks sieve hash ≡ with_next before left rest → 0 < left → after ≡ marked before (rest % 65536)
        → with_marks sieve hash ≡ with_next after (left - 1) (rest / 32)
    giving_on before after e h m = e ∙ with_next_holds before left rest h ∙ rw m

    pub giving_end : (given : List ℕ) → with_marks sieve hash ≡ with_next given left rest → left ≤ 0 → given ≡ with_marks sieve hash
    unfolding with_next
    giving_end given e z =
        let none : left ≡ 0 = omega arith in
        sym (e ∙ rw none)

-- what is marked stays, and what was given is there
next_length : (left rest : ℕ) (sieve : List ℕ) → length sieve ≡ 1024 → length (with_next sieve left rest) ≡ 1024
unfolding with_next
next_length zero rest sieve n = n
next_length (suc left) rest sieve n = next_length left (rest / 32) (marked sieve (rest % 65536)) (mark_length sieve (rest % 65536) n)

next_keeps : (left rest : ℕ) (sieve : List ℕ) (slot : ℕ) → length sieve ≡ 1024 → is_marked sieve slot ≡ true → is_marked (with_next sieve left rest) slot ≡ true
unfolding with_next
next_keeps zero rest sieve slot n e = e
next_keeps (suc left) rest sieve slot n e =
    next_keeps left (rest / 32) (marked sieve (rest % 65536)) slot (mark_length sieve (rest % 65536) n) (mark_keeps sieve n (rest % 65536) (omega arith) slot e)

next_own : (left rest : ℕ) (sieve : List ℕ) → length sieve ≡ 1024 → has_next (with_next sieve left rest) left rest ≡ true
unfolding has_next with_next
next_own zero rest sieve n = refl
next_own (suc left) rest sieve n =
    let slot = rest % 65536 in
    let m = mark_length sieve slot n in
    sym (and_yes _ _ true
    (next_keeps left (rest / 32) (marked sieve slot) slot m (mark_own sieve n slot (omega arith)))
    (sym (next_own left (rest / 32) (marked sieve slot) m)))

module _ (sieve : List ℕ) (n : length sieve ≡ 1024) (hash : ℕ) where
  kept_next : (left rest : ℕ) → has_next sieve left rest ≡ true → has_next (with_marks sieve hash) left rest ≡ true
  unfolding has_next with_marks
  kept_next zero rest e = refl
  kept_next (suc left) rest e =
      sym (and_yes _ _ true
      (next_keeps mark_count hash sieve (rest % 65536) n (and_left _ _ e))
      (sym (kept_next left (rest / 32) (and_right _ _ e))))

  pub marks_length : length (with_marks sieve hash) ≡ 1024
  unfolding with_marks
  marks_length = next_length mark_count hash sieve n

  pub marks_keep : (other : ℕ) → has_marks sieve other ≡ true → has_marks (with_marks sieve hash) other ≡ true
  unfolding has_marks
  marks_keep other e = kept_next mark_count other e

  pub marks_own : has_marks (with_marks sieve hash) hash ≡ true
  unfolding has_marks with_marks
  marks_own = next_own mark_count hash sieve n
