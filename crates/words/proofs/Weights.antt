-- Eight bytes stand in the order of their numbers, and what is left behind bytes that are the same decides.
-- Assumes nothing.
use mathlib.Core.Path.{◌≡◌, refl, sym, ap, ◌∙◌}
use mathlib.Core.Bool.{Bool, false}
use mathlib.Core.List.{List, [], ◌∷◌, ◌++◌}
use Prim.Native.Nat.{ℕ, suc, ◌+◌, ◌-◌, ◌*◌, ◌^◌, ◌≤◌, ◌<◌}
use native.Mathlib.Numerals.{add-one}
use native.Mathlib.Nat.{pow-suc, pow-le-pow_right}
use native.Mathlib.Omega.{arith}
use lib.Dec.{ltb}
use borrow.Author.Tests.{lt-ltb, le-ltb}
use lib.ListN.{length, take, drop, get_or, drop_of_length-le, take-append-drop, length-take, length-drop}
use lib.Seq.{slice, length-slice, length-take-le, drop-cons, drop-append-le}
use Rattle.record.proofs.Every.{slice_from}
use Rattle.std.specs.declared.cmp.Ordering.TheVariants.{Less}
use Rattle.record.specs.Ordering.{order, is_after}
use Rattle.record.proofs.Orders.{before, after, level, Side, less, more, same, side, turn_before}
use Rattle.numbers.proofs.Laws.{Bytes, bytes_all, bytes_take, bytes_drop}
use Rattle.words.specs.Words.{weight_from, weight}

-- a number, byte by byte: what is left decides
unfoldable pub Weighed : List ℕ → ℕ → ℕ → ℕ → Type 0
Weighed xs from i n = weight (slice from (from + 8) xs) ≡ weight_from n (drop i (take (from + 8 - from) (drop from xs)))

module _ (xs : List ℕ) (from : ℕ) where
  abbrev eight_bytes : List ℕ
  eight_bytes = take (from + 8 - from) (drop from xs)

  pub weighed_none : Weighed xs from 0 0
  unfolding Weighed weight
  weighed_none = ap (weight_from 0) (slice_from from (from + 8) xs)

  pub eight_long : from + 8 ≤ length xs → length eight_bytes ≡ 8
  eight_long k = simp (length-take, length-drop) (omega arith)

  pub weighed_next : (i n x : ℕ) → i < length eight_bytes → x ≡ get_or eight_bytes i 0 → Weighed xs from i n → Weighed xs from (i + 1) (n * 256 + x)
  unfolding Weighed weight_from
  weighed_next i n x h e w = w ∙ rw (add-one, drop-cons eight_bytes i 0, e)

  pub weighed_end : (i n : ℕ) → length eight_bytes ≤ i → Weighed xs from i n → n ≡ weight (slice from (from + 8) xs)
  unfolding Weighed weight_from
  weighed_end i n h w = sym (w ∙ rw (drop_of_length-le eight_bytes))

-- seven bytes at most are read before the last
pub room : (n i : ℕ) → n < 256 ^ i → i < 8 → n < 72057594037927936
room n i h k =
    let j : i ≤ 7 = omega arith in
    omega (arith, pow-le-pow_right {n = 256} (omega arith) j)

pub grow : (n i x : ℕ) → n < 256 ^ i → x < 256 → n * 256 + x < 256 ^ (i + 1)
grow n i x h k =
    let e : i + 1 ≡ suc i = omega arith in
    rw e (rw pow-suc (omega arith))

-- behind a lesser number, as many bytes weigh less
lighter : (a b : ℕ) (xs ys : List ℕ) → Bytes xs → Bytes ys → length xs ≡ length ys → a < b → weight_from a xs < weight_from b ys
unfolding weight_from Bytes
lighter a b [] [] p q n h = h
lighter a b [] (y ∷ ys) p q n h = absurd (omega (arith, n))
lighter a b (x ∷ xs) [] p q n h = absurd (omega (arith, n))
lighter a b (x ∷ xs) (y ∷ ys) p q n h = lighter (a * 256 + x) (b * 256 + y) xs ys p.1 q.1 (omega (arith, n)) (omega (arith, p.0))

module _ (s t : List ℕ) where
  -- what weighs less stands before, whatever follows
  weighs_before : (a : ℕ) (xs ys : List ℕ) → Bytes xs → Bytes ys → length xs ≡ length ys → weight_from a xs < weight_from a ys → order (xs ++ s) (ys ++ t) ≡ Less
  unfolding weight_from Bytes
  weighs_before a [] [] p q n h = absurd (omega (arith, h))
  weighs_before a [] (y ∷ ys) p q n h = absurd (omega (arith, n))
  weighs_before a (x ∷ xs) [] p q n h = absurd (omega (arith, n))
  weighs_before a (x ∷ xs) (y ∷ ys) p q n h = go (side x y) (λ e. weighs_before (a * 256 + x) xs ys p.1 q.1 (omega (arith, n)) (rw (sym e) at h))
    where
      m : length xs ≡ length ys
      m = omega (arith, n)

      go : Side x y → (x ≡ y → order (xs ++ s) (ys ++ t) ≡ Less) → order (x ∷ (xs ++ s)) (y ∷ (ys ++ t)) ≡ Less
      go (less k) f = before x y _ _ k
      go (more k) f = absurd (omega (arith, h, lighter (a * 256 + y) (a * 256 + x) ys xs q.1 p.1 (sym m) (omega arith)))
      go (same k l) f = level x y _ _ k l ∙ f (omega arith)

  -- what weighs the same is the same, and what follows decides
  weighs_same : (a : ℕ) (xs ys : List ℕ) → Bytes xs → Bytes ys → length xs ≡ length ys → weight_from a xs ≡ weight_from a ys → order (xs ++ s) (ys ++ t) ≡ order s t
  unfolding weight_from Bytes
  weighs_same a [] [] p q n h = refl
  weighs_same a [] (y ∷ ys) p q n h = absurd (omega (arith, n))
  weighs_same a (x ∷ xs) [] p q n h = absurd (omega (arith, n))
  weighs_same a (x ∷ xs) (y ∷ ys) p q n h = go (side x y) (λ e. weighs_same (a * 256 + x) xs ys p.1 q.1 (omega (arith, n)) (rw (sym e) at h))
    where
      m : length xs ≡ length ys
      m = omega (arith, n)

      go : Side x y → (x ≡ y → order (xs ++ s) (ys ++ t) ≡ order s t) → order (x ∷ (xs ++ s)) (y ∷ (ys ++ t)) ≡ order s t
      go (less k) f = absurd (omega (arith, h, lighter (a * 256 + x) (a * 256 + y) xs ys p.1 q.1 m (omega arith)))
      go (more k) f = absurd (omega (arith, h, lighter (a * 256 + y) (a * 256 + x) ys xs q.1 p.1 (sym m) (omega arith)))
      go (same k l) f = level x y _ _ k l ∙ f (omega arith)

-- what is left from i on decides
unfoldable pub Left : List ℕ → List ℕ → ℕ → Type 0
Left xs ys i = order xs ys ≡ order (drop i xs) (drop i ys)

pub left_none : (xs ys : List ℕ) → Left xs ys 0
unfolding Left
left_none xs ys = refl

-- the same from a place on
unfoldable pub Behind : List ℕ → List ℕ → ℕ → ℕ → Type 0
Behind xs ys from i = order (drop from xs) (drop from ys) ≡ order (drop i xs) (drop i ys)

pub rest_none : (xs ys : List ℕ) (from : ℕ) → Behind xs ys from from
unfolding Behind
rest_none xs ys from = refl

module _ (xs ys : List ℕ) (n : length ys ≡ length xs) (from i : ℕ) (l : Behind xs ys from i) where
  module _ (h : i < length xs) where
    -- the first byte that differs decides
    pub rest_apart : (get_or xs i 0 ≡ get_or ys i 0 → ⊥) → ltb (get_or ys i 0) (get_or xs i 0) ≡ is_after (order (drop from xs) (drop from ys))
    unfolding Behind is_after
    rest_apart d =
        let b : i < length ys = omega arith in
        go (side (get_or xs i 0) (get_or ys i 0)) ∙ sym (ap is_after l ∙ rw (drop-cons xs i 0, drop-cons ys i 0))
      where
        go : Side (get_or xs i 0) (get_or ys i 0) → ltb (get_or ys i 0) (get_or xs i 0) ≡ is_after (order (get_or xs i 0 ∷ drop (suc i) xs) (get_or ys i 0 ∷ drop (suc i) ys))
        go (less k) = le-ltb (get_or ys i 0) (get_or xs i 0) (omega arith) ∙ rw (before _ _ (drop (suc i) xs) (drop (suc i) ys) k)
        go (more k) = lt-ltb _ _ k ∙ rw (after _ _ (drop (suc i) xs) (drop (suc i) ys) k)
        go (same k j) = absurd (d (omega arith))

    pub rest_next : get_or xs i 0 ≡ get_or ys i 0 → Behind xs ys from (i + 1)
    unfolding Behind
    rest_next t =
        let b : i < length ys = omega arith in
        l ∙ rw (add-one, drop-cons xs i 0, drop-cons ys i 0) (level _ _ _ _ (omega arith) (omega arith))

  pub rest_end : length xs ≤ i → false ≡ is_after (order (drop from xs) (drop from ys))
  unfolding Behind order is_after
  rest_end h =
      let b : length ys ≤ i = omega arith in
      sym (ap is_after l ∙ rw (drop_of_length-le xs, drop_of_length-le ys))

-- eight bytes at a time
module _ (xs ys : List ℕ) (p : (k : ℕ) → get_or xs k 0 < 256) (q : (k : ℕ) → get_or ys k 0 < 256) (n : length ys ≡ length xs) (i : ℕ) (h : i + 8 ≤ length xs) where
  -- the eight bytes from i on, and what follows them
  parted : (zs : List ℕ) → i + 8 ≤ length zs → drop i zs ≡ slice i (i + 8) zs ++ drop (i + 8) zs
  parted zs k =
      let m : i ≤ length (take (i + 8) zs) = omega (arith, length-take-le (i + 8) zs k) in
      ap (drop i) (sym (take-append-drop (i + 8) zs)) ∙ drop-append-le i (take (i + 8) zs) (drop (i + 8) zs) m

  eight : (zs : List ℕ) → ((k : ℕ) → get_or zs k 0 < 256) → Bytes (slice i (i + 8) zs)
  eight zs b = bytes_drop i (take (i + 8) zs) (bytes_take (i + 8) zs (bytes_all zs b))

  as_long : length (slice i (i + 8) xs) ≡ length (slice i (i + 8) ys)
  as_long =
      let k : i + 8 ≤ length ys = omega arith in
      length-slice i (i + 8) xs h ∙ sym (length-slice i (i + 8) ys k)

  both : order (drop i xs) (drop i ys) ≡ order (slice i (i + 8) xs ++ drop (i + 8) xs) (slice i (i + 8) ys ++ drop (i + 8) ys)
  both =
      let k : i + 8 ≤ length ys = omega arith in
      rw (parted xs h, parted ys k)

  module _ (a b : ℕ) (e : a ≡ weight (slice i (i + 8) xs)) (f : b ≡ weight (slice i (i + 8) ys)) (l : Left xs ys i) where
    -- the first eight that differ decide
    pub words_apart : (a ≡ b → ⊥) → ltb b a ≡ is_after (order xs ys)
    unfolding Left is_after weight
    words_apart d = go (side a b) ∙ sym (ap is_after (l ∙ both))
      where
        go : Side a b → ltb b a ≡ is_after (order (slice i (i + 8) xs ++ drop (i + 8) xs) (slice i (i + 8) ys ++ drop (i + 8) ys))
        go (less k) =
            let w : weight_from 0 (slice i (i + 8) xs) < weight_from 0 (slice i (i + 8) ys) = omega arith in
            le-ltb b a (omega arith) ∙ rw (weighs_before (drop (i + 8) xs) (drop (i + 8) ys) 0 _ _ (eight xs p) (eight ys q) as_long w)
        go (more k) =
            let w : weight_from 0 (slice i (i + 8) ys) < weight_from 0 (slice i (i + 8) xs) = omega arith in
            lt-ltb b a k ∙ rw (turn_before _ _ (weighs_before (drop (i + 8) ys) (drop (i + 8) xs) 0 _ _ (eight ys q) (eight xs p) (sym as_long) w))
        go (same k j) = absurd (d (omega arith))

    pub words_next : a ≡ b → Left xs ys (i + 8)
    unfolding Left weight
    words_next t =
        let w : weight_from 0 (slice i (i + 8) xs) ≡ weight_from 0 (slice i (i + 8) ys) = omega arith in
        l ∙ both ∙ weighs_same (drop (i + 8) xs) (drop (i + 8) ys) 0 _ _ (eight xs p) (eight ys q) as_long w

-- what is left
pub words_rest : (xs ys : List ℕ) (i : ℕ) (r : Bool) → Left xs ys i → r ≡ is_after (order (drop i xs) (drop i ys)) → r ≡ is_after (order xs ys)
unfolding Left
words_rest xs ys i r l e = e ∙ ap is_after (sym l)
