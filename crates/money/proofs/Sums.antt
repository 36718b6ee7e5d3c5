-- The sum of a list: adding one amount after another gives exactly the amount of the sum, and up to 65,535 amounts of twenty digits never wrap.
-- Assumes nothing.
use mathlib.Core.Path.{◌≡◌, refl, ap, ◌∙◌}
use mathlib.Core.Bool.{Bool, true, false}
use mathlib.Core.List.{List, [], ◌∷◌, ◌++◌}
use Prim.Native.Nat.{ℕ, ◌+◌, ◌*◌, ◌≤◌, ◌<◌}
use native.Mathlib.Nat.{add_assoc}
use native.Mathlib.Omega.{arith}
use lib.ListN.{length}
use Rattle.record.specs.Choice.{choose}
use Rattle.money.specs.declared.Amount.{Amount}
use Rattle.money.specs.declared.Signed.{Signed}
use Rattle.money.specs.Money.{worth, split, total, Fit, side, entered}
use Rattle.money.proofs.Amounts.{worth_split, split_whole}

-- amounts added one after another, as `plus` promises each step
unfoldable pub added : Amount → List ℕ → Amount
added a [] = a
added a (x ∷ xs) = added (split (worth a + x)) xs

pub added_total : (xs : List ℕ) (n : ℕ) → added (split n) xs ≡ split (n + total xs)
unfolding added total
added_total [] n = ap split (omega arith)
added_total (x ∷ xs) n =
    added_total xs (worth (split n) + x) ∙ ap split (rw worth_split (add_assoc n x (total xs)))

-- one amount more at the end
pub total_snoc : (xs : List ℕ) (x : ℕ) → total (xs ++ x ∷ []) ≡ total xs + x
unfolding total
total_snoc [] x = omega arith
total_snoc (y ∷ xs) x = rw (total_snoc xs x) (omega arith)

-- every number of the list has at most twenty digits
pub Below : List ℕ → Type 0
Below [] = Unit {0}
Below (x ∷ xs) = (x < 100000000000000000000) × Below xs

pub total_room : (xs : List ℕ) → Below xs → total xs ≤ 100000000000000000000 * length xs
unfolding total Below
total_room [] b = omega arith
total_room (x ∷ xs) b = omega (arith, b.0, total_room xs b.1)

-- nothing wraps: the sum of fewer than 65,535 amounts takes one more
pub fits : (xs : List ℕ) (x : ℕ) → Below xs → x < 100000000000000000000 → length xs < 65535 → Fit (split (total xs)) (split x)
fits xs x b h n =
    record { left = split_whole (total xs); right = split_whole x; room = rw (worth_split, worth_split) (omega (arith, total_room xs b)) }

-- signed amounts entered one after another, as `enter` promises each step
unfoldable pub entered_all : Signed → List (Bool × ℕ) → Signed
entered_all s [] = s
entered_all s (x ∷ xs) = entered_all (entered s x.0 x.1) xs

-- a signed sum is the two sums, each exact and apart from the other
pub entered_total : (xs : List (Bool × ℕ)) (p n : ℕ)
    → entered_all (record { positive = split p; negative = split n }) xs ≡ record { positive = split (p + total (side false xs)); negative = split (n + total (side true xs)) }
unfolding entered_all entered side total choose
entered_total [] p n =
    let a : p ≡ p + 0 = omega arith in
    let b : n ≡ n + 0 = omega arith in
    λ i. record { positive = split (a i); negative = split (b i) }
entered_total ((true, x) ∷ xs) p n =
    let a = add_assoc n x (total (side true xs)) in
    rw (worth_split n) (entered_total xs p (n + x) ∙ (λ i. record { positive = split (p + total (side false xs)); negative = split (a i) }))
entered_total ((false, x) ∷ xs) p n =
    let a = add_assoc p x (total (side false xs)) in
    rw (worth_split p) (entered_total xs (p + x) n ∙ (λ i. record { positive = split (a i); negative = split (n + total (side true xs)) }))

-- document 01, worked examples: twenty nines plus 1
pub carried : added (split 99999999999999999999) (1 ∷ []) ≡ record { high = 10000000000; low = 0 }
unfolding added split worth
carried = refl
