-- The order of values by bytes: total, and read from the front.
-- Assumes nothing.
use mathlib.Core.Path.{◌≡◌, refl, sym, ap, ◌∙◌}
use mathlib.Core.Bool.{true, true≢false}
use mathlib.Core.List.{List, [], ◌∷◌}
use Prim.Native.Nat.{ℕ, zero, suc, ◌+◌, ◌≤◌, ◌<◌, min}
use native.Mathlib.Numerals.{add-one}
use native.Mathlib.Omega.{arith}
use borrow.Author.Tests.{lt-ltb, le-ltb, eq-eqb, ne_eqb}
use Rattle.std.specs.Ordering.{nat_cmp}
use lib.ListN.{length, drop, get_or, drop_of_length-le}
use lib.Seq.{drop-cons}
use Rattle.std.specs.declared.cmp.Ordering.{Ordering}
use Rattle.std.specs.declared.cmp.Ordering.TheVariants.{Less, Equal, Greater}
use Rattle.record.specs.Choice.{choose}
use Rattle.record.specs.Ordering.{order, is_before}

-- by the first byte
pub before : (x y : ℕ) (xs ys : List ℕ) → x < y → order (x ∷ xs) (y ∷ ys) ≡ Less
unfolding order choose
before x y xs ys h = rw (lt-ltb x y h)

pub after : (x y : ℕ) (xs ys : List ℕ) → y < x → order (x ∷ xs) (y ∷ ys) ≡ Greater
unfolding order choose
after x y xs ys h = rw (le-ltb x y (omega arith), lt-ltb y x h)

pub level : (x y : ℕ) (xs ys : List ℕ) → x ≤ y → y ≤ x → order (x ∷ xs) (y ∷ ys) ≡ order xs ys
unfolding order choose
level x y xs ys h k = rw (le-ltb x y k, le-ltb y x h)

-- which of the three
pub data Side (x y : ℕ) : Type 0 where
  less : x < y → Side x y
  more : y < x → Side x y
  same : x ≤ y → y ≤ x → Side x y

pub side : (x y : ℕ) → Side x y
side zero zero = same (omega arith) (omega arith)
side zero (suc y) = less (omega arith)
side (suc x) zero = more (omega arith)
side (suc x) (suc y) = up (side x y)
  where
    up : Side x y → Side (suc x) (suc y)
    up (less h) = less (omega arith)
    up (more h) = more (omega arith)
    up (same h k) = same (omega arith) (omega arith)

-- the other way round
unfoldable pub turned : Ordering → Ordering
turned Less = Greater
turned Equal = Equal
turned Greater = Less

pub order_turned : (xs ys : List ℕ) → order ys xs ≡ turned (order xs ys)
unfolding order turned
order_turned [] [] = refl
order_turned [] (y ∷ ys) = refl
order_turned (x ∷ xs) [] = refl
order_turned (x ∷ xs) (y ∷ ys) = go (side x y) (order_turned xs ys)
  where
    go : Side x y → order ys xs ≡ turned (order xs ys) → order (y ∷ ys) (x ∷ xs) ≡ turned (order (x ∷ xs) (y ∷ ys))
    go (less h) m = after y x ys xs h ∙ ap turned (sym (before x y xs ys h))
    go (more h) m = before y x ys xs h ∙ ap turned (sym (after x y xs ys h))
    go (same h k) m = level y x ys xs k h ∙ m ∙ ap turned (sym (level x y xs ys h k))

pub turn_before : (xs ys : List ℕ) → order xs ys ≡ Less → order ys xs ≡ Greater
unfolding turned
turn_before xs ys e = order_turned xs ys ∙ ap turned e

pub turn_after : (xs ys : List ℕ) → order xs ys ≡ Greater → order ys xs ≡ Less
unfolding turned
turn_after xs ys e = order_turned xs ys ∙ ap turned e

-- the order decides equality, and no value comes before itself
pub order_equal : (xs ys : List ℕ) → order xs ys ≡ Equal → xs ≡ ys
unfolding order
order_equal [] [] e = refl
order_equal [] (y ∷ ys) e = absurd (let z : ◌≡◌ {A = ℕ} 0 1 = cc in omega arith)
order_equal (x ∷ xs) [] e = absurd (let z : ◌≡◌ {A = ℕ} 0 1 = cc in omega arith)
order_equal (x ∷ xs) (y ∷ ys) e = go (side x y) (order_equal xs ys)
  where
    go : Side x y → (order xs ys ≡ Equal → xs ≡ ys) → x ∷ xs ≡ y ∷ ys
    go (less h) m = absurd (let f = before x y xs ys h in let z : ◌≡◌ {A = ℕ} 0 1 = cc in omega arith)
    go (more h) m = absurd (let f = after x y xs ys h in let z : ◌≡◌ {A = ℕ} 0 1 = cc in omega arith)
    go (same h k) m =
        let q : x ≡ y = omega arith in
        let t : xs ≡ ys = m (sym (level x y xs ys h k) ∙ e) in
        λ i. q i ∷ t i

pub order_self : (xs : List ℕ) → order xs xs ≡ Equal
unfolding order
order_self [] = refl
order_self (x ∷ xs) = level x x xs xs (omega arith) (omega arith) ∙ order_self xs

pub before_not : (xs ys : List ℕ) → order xs ys ≡ Less → xs ≡ ys → ⊥
before_not xs ys b e =
    let s = order_self ys in
    let z : ◌≡◌ {A = ℕ} 0 1 = cc in
    omega arith

pub after_not : (xs ys : List ℕ) → order xs ys ≡ Greater → xs ≡ ys → ⊥
after_not xs ys a e = before_not ys xs (turn_after xs ys a) (sym e)

-- what the test of an order tells
pub told_before : (o : Ordering) → is_before o ≡ true → o ≡ Less
unfolding is_before
told_before Less e = refl
told_before Equal e = absurd (true≢false (sym e))
told_before Greater e = absurd (true≢false (sym e))

pub order_transitive : (xs ys zs : List ℕ) → order xs ys ≡ Less → order ys zs ≡ Less → order xs zs ≡ Less
unfolding order
order_transitive [] [] zs e f = f
order_transitive [] (y ∷ ys) [] e f = absurd (let z : ◌≡◌ {A = ℕ} 0 1 = cc in omega arith)
order_transitive [] (y ∷ ys) (z ∷ zs) e f = refl
order_transitive (x ∷ xs) [] zs e f = absurd (let z : ◌≡◌ {A = ℕ} 0 1 = cc in omega arith)
order_transitive (x ∷ xs) (y ∷ ys) [] e f = absurd (let z : ◌≡◌ {A = ℕ} 0 1 = cc in omega arith)
order_transitive (x ∷ xs) (y ∷ ys) (z ∷ zs) e f = go (side x y) (side y z) (order_transitive xs ys zs)
  where
    go : Side x y → Side y z → (order xs ys ≡ Less → order ys zs ≡ Less → order xs zs ≡ Less) → order (x ∷ xs) (z ∷ zs) ≡ Less
    go (more h) s m = absurd (let g = after x y xs ys h in let n : ◌≡◌ {A = ℕ} 0 1 = cc in omega arith)
    go (less h) (more k) m = absurd (let g = after y z ys zs k in let n : ◌≡◌ {A = ℕ} 0 1 = cc in omega arith)
    go (same h l) (more k) m = absurd (let g = after y z ys zs k in let n : ◌≡◌ {A = ℕ} 0 1 = cc in omega arith)
    go (less h) (less k) m = before x z xs zs (omega arith)
    go (less h) (same k l) m = before x z xs zs (omega arith)
    go (same h l) (less k) m = before x z xs zs (omega arith)
    go (same h l) (same k j) m =
        level x z xs zs (omega arith) (omega arith) ∙ m (sym (level x y xs ys h l) ∙ e) (sym (level y z ys zs k j) ∙ f)

-- from the front: what is left decides
unfoldable pub Level : List ℕ → List ℕ → ℕ → Type 0
Level xs ys i = order xs ys ≡ order (drop i xs) (drop i ys)

pub level_none : (xs ys : List ℕ) → Level xs ys 0
unfolding Level
level_none xs ys = refl

-- two lists of which i bytes are level
module _ (xs ys : List ℕ) (i : ℕ) (l : Level xs ys i) where
  -- x and y were read at i, and o is their order
  module _ (nx : i < length xs) (ny : i < length ys) (x y : ℕ) (ex : x ≡ get_or xs i 0) (ey : y ≡ get_or ys i 0) (o : Ordering) (e : o ≡ nat_cmp x y) where
    here : order xs ys ≡ order (x ∷ drop (suc i) xs) (y ∷ drop (suc i) ys)
    unfolding Level
    here = l ∙ rw (drop-cons xs i 0, drop-cons ys i 0, ex, ey)

    pub level_apart : (o ≡ Equal → ⊥) → o ≡ order xs ys
    level_apart d = go (side x y)
      where
        go : Side x y → o ≡ order xs ys
        go (less h) = e ∙ rw (lt-ltb x y h) (sym (here ∙ before x y _ _ h))
        go (more h) = e ∙ rw (le-ltb x y (omega arith), ne_eqb x y (λ q. absurd (omega (arith, q)))) (sym (here ∙ after x y _ _ h))
        go (same h k) = absurd (d (e ∙ rw (le-ltb x y k, eq-eqb x y (omega arith))))

    pub level_next : o ≡ Equal → Level xs ys (i + 1)
    unfolding Level
    level_next q = go (side x y)
      where
        go : Side x y → order xs ys ≡ order (drop (i + 1) xs) (drop (i + 1) ys)
        go (less h) = absurd (let f : Less ≡ Equal = sym (e ∙ rw (lt-ltb x y h)) ∙ q in let z : ◌≡◌ {A = ℕ} 0 1 = cc in omega arith)
        go (more h) = absurd (let f : Greater ≡ Equal = sym (e ∙ rw (le-ltb x y (omega arith), ne_eqb x y (λ p. absurd (omega (arith, p))))) ∙ q in let z : ◌≡◌ {A = ℕ} 0 1 = cc in omega arith)
        go (same h k) = here ∙ rw add-one (level x y _ _ h k)

    pub level_alike : x ≡ y → Level xs ys (i + 1)
    unfolding Level
    level_alike q = here ∙ rw add-one (level x y _ _ (omega arith) (omega arith))

  -- where one of them ends
  pub level_end : (n m : ℕ) → length xs ≡ n → length ys ≡ m → i ≤ min n m → min n m ≤ i → (o : Ordering) → o ≡ nat_cmp n m → o ≡ order xs ys
  unfolding Level order
  level_end n m nx ny h k o e = go (side n m)
    where
      go : Side n m → o ≡ order xs ys
      go (less a) =
          let p : length xs ≤ i = omega arith in
          let q : i < length ys = omega arith in
          e ∙ rw (lt-ltb n m a) (sym (l ∙ rw (drop_of_length-le xs, drop-cons ys i 0)))
      go (more a) =
          let p : i < length xs = omega arith in
          let q : length ys ≤ i = omega arith in
          e ∙ rw (le-ltb n m (omega arith), ne_eqb n m (λ u. absurd (omega (arith, u)))) (sym (l ∙ rw (drop_of_length-le ys, drop-cons xs i 0)))
      go (same a b) =
          let p : length xs ≤ i = omega arith in
          let q : length ys ≤ i = omega arith in
          e ∙ rw (le-ltb n m b, eq-eqb n m (omega arith)) (sym (l ∙ rw (drop_of_length-le xs, drop_of_length-le ys)))
