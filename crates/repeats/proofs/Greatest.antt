-- A number that stands after the greatest so far, and what it says of the numbers before it.
-- Assumes nothing.
use mathlib.Core.Path.{◌≡◌, refl, sym, ◌∙◌}
use mathlib.Core.Bool.{Bool, true, false, true≢false}
use mathlib.Core.List.{List, [], ◌∷◌, ◌++◌}
use Prim.Native.Nat.{ℕ}
use native.Mathlib.Omega.{arith}
use Rattle.std.specs.declared.cmp.Ordering.{Ordering}
use Rattle.std.specs.declared.cmp.Ordering.TheVariants.{Less, Equal, Greater}
use Rattle.record.specs.Choice.{◌or◌}
use Rattle.record.specs.Tests.{alike}
use Rattle.record.specs.Ordering.{order, is_after}
use Rattle.record.proofs.Same.{alike_equal}
use Rattle.record.proofs.Orders.{turn_before, turn_after, order_self, order_transitive}
use Rattle.tables.specs.Tables.{member}
use Rattle.repeats.specs.Repeats.{Topped}

-- a number that was copied and held against the greatest
pub read_after : (copy x greatest : List ℕ) (r b : Bool) → copy ≡ x → r ≡ is_after (order copy greatest) → r ≡ b → is_after (order x greatest) ≡ b
read_after copy x greatest r b e q t = rw (← e) (sym q ∙ t)

-- the order that the test tells
not_after : (o : Ordering) → is_after o ≡ false → o ≡ Greater → ⊥
unfolding is_after
not_after Less e q = absurd (let z : ◌≡◌ {A = ℕ} 0 1 = cc in omega arith)
not_after Equal e q = absurd (let z : ◌≡◌ {A = ℕ} 0 1 = cc in omega arith)
not_after Greater e q = true≢false e

is_after_holds : (o : Ordering) → is_after o ≡ true → o ≡ Greater
unfolding is_after
is_after_holds Less e = absurd (true≢false (sym e))
is_after_holds Equal e = absurd (true≢false (sym e))
is_after_holds Greater e = refl

after_itself : (xs : List ℕ) → order xs xs ≡ Greater → ⊥
unfolding is_after
after_itself xs e = not_after (order xs xs) (rw (order_self xs)) e

-- what stands after one that stands after a third stands after the third
after_both : (xs ys zs : List ℕ) → order xs ys ≡ Greater → order ys zs ≡ Greater → order xs zs ≡ Greater
after_both xs ys zs e f = turn_before zs xs (order_transitive zs ys xs (turn_after ys zs f) (turn_after xs ys e))

-- the greatest so far
module _ (greatest x : List ℕ) where
  pub topped_miss : (ys : List (List ℕ)) → Topped greatest ys → is_after (order x greatest) ≡ true → member x ys ≡ false
  unfolding Topped member ◌or◌
  topped_miss [] t e = refl
  topped_miss (y ∷ ys) t e = go (alike y x) refl (topped_miss ys t.1 e)
    where
      go : (b : Bool) → alike y x ≡ b → member x ys ≡ false → (b or member x ys) ≡ false
      go false a m = m
      go true a m = absurd (t.0 (rw (alike_equal y x a) (is_after_holds (order x greatest) e)))

  pub topped_raise : (ys : List (List ℕ)) → Topped greatest ys → is_after (order x greatest) ≡ true → Topped x (ys ++ x ∷ [])
  unfolding Topped
  topped_raise [] t e = (after_itself x, tt)
  topped_raise (y ∷ ys) t e = (λ q. t.0 (after_both y x greatest q (is_after_holds (order x greatest) e)), topped_raise ys t.1 e)
