-- Passes over the classes: the best place so far, and the first repeat after the last pass.
-- Assumes nothing.
use Rattle.std.specs.Prelude.{Some, None}
use mathlib.Core.Path.{◌≡◌, refl, sym, ◌∙◌}
use mathlib.Core.Bool.{Bool, true, false, true≢false}
use mathlib.Core.Logic.{⊎_elim}
use mathlib.Core.List.{List}
use Prim.Native.Nat.{ℕ, zero, suc, ◌+◌, ◌/◌, ◌≤◌, ◌<◌}
use native.Mathlib.Nat.{eq-or-lt_of_le, le_of_suc-le-suc, lt_irrefl, mod-lt}
use native.Mathlib.Numerals.{add-one}
use native.Mathlib.Omega.{arith}
use borrow.Author.Tests.{eq-eqb}
use lib.Dec.{eqb}
use lib.ListN.{length}
use Rattle.record.specs.Choice.{◌and◌}
use Rattle.nesting.specs.Records.{cut, record_at}
use Rattle.repeats.specs.declared.Sort.TheVariants.{Payments}
use Rattle.repeats.specs.Repeats.{is_of, repeats}
use Rattle.repeats.specs.Sieve.{id_of, class_of, in_class, repeats_in, Tried, Passed}
use Rattle.repeats.proofs.Firsts.{wanted_repeat, Seeking, seeking_none, seeking_next, seeking_stop, seeking_end}

-- one pass: no repeat of the class before the place
unfoldable pub Clean : ℕ → ℕ → ℕ → List ℕ → ℕ → Type 0
Clean classes class first xs place = (k : ℕ) → k < place → repeats_in classes class first xs k ≡ false

module _ (classes class first : ℕ) (xs : List ℕ) where
  pub clean_none : Clean classes class first xs 0
  unfolding Clean
  clean_none k h = absurd (omega arith)

  module _ (place : ℕ) (r : Bool) (walks : ℕ) (e : Tried classes class first xs place r walks) (c : Clean classes class first xs place) where
    pub clean_next : r ≡ false → Clean classes class first xs (place + 1)
    unfolding Clean
    clean_next t k h =
        ⊎_elim
        (λ (q : k ≡ place). rw q (sym e.answer ∙ t))
        (λ (q : k < place). c k q)
        (eq-or-lt_of_le (le_of_suc-le-suc (rw (← add-one place) h)))

    pub passed_hit : (best : ℕ) → place < best → r ≡ true → Passed classes class first xs best place
    unfolding Clean
    passed_hit best h t = record { within = omega arith; clean = c; found = λ l. sym e.answer ∙ t }

  pub passed_all : (best place : ℕ) → place ≤ best → best ≤ place → Clean classes class first xs place → Passed classes class first xs best best
  unfolding Clean
  passed_all best place h l c = record { within = omega arith; clean = λ j m. c j (omega arith); found = λ m. absurd (lt_irrefl best m) }

-- the record at the place repeats an earlier one
unfoldable pub is_repeat : ℕ → List ℕ → ℕ → Bool
is_repeat first xs k = repeats Payments (cut first k xs) (record_at first k xs)

-- after the passes of the classes before c: the best place is a repeat, or there is none yet; no earlier one is a repeat of those classes
pub record Best (classes first : ℕ) (xs : List ℕ) (count best c : ℕ) : Type 0 where
  pub within : best ≤ count
  pub clean : (k : ℕ) → k < best → class_of classes (id_of (record_at first k xs)) < c → is_repeat first xs k ≡ false
  pub found : best < count → is_repeat first xs best ≡ true

best_none : (classes first : ℕ) (xs : List ℕ) (count : ℕ) → Best classes first xs count count 0
best_none classes first xs count = record { within = omega arith; clean = λ k h l. absurd (omega arith); found = λ h. absurd (lt_irrefl count h) }

-- no repeat of its class is no repeat; a repeat of a class is a repeat
drop_class : (d e m : Bool) → e ≡ true → ((d and e) and (d and m)) ≡ false → (d and m) ≡ false
unfolding ◌and◌
drop_class true true m q p = p
drop_class true false m q p = absurd (true≢false (sym q))
drop_class false e m q p = refl

lose_class : (d e r : Bool) → ((d and e) and r) ≡ true → r ≡ true
unfolding ◌and◌
lose_class true true r p = p
lose_class true false r p = absurd (true≢false (sym p))
lose_class false e r p = absurd (true≢false (sym p))

module _ (classes first : ℕ) (xs : List ℕ) (count best c : ℕ) (o : Best classes first xs count best c) (place : ℕ) (p : Passed classes c first xs best place) where
  here : (k : ℕ) → k < place → class_of classes (id_of (record_at first k xs)) ≡ c → is_repeat first xs k ≡ false
  unfolding is_repeat repeats_in in_class repeats
  here k h e = drop_class (is_of Payments (record_at first k xs)) (eqb (class_of classes (id_of (record_at first k xs))) c) _ (eq-eqb _ c e) (p.clean k h)

  there : place < best → is_repeat first xs place ≡ true
  unfolding is_repeat repeats_in in_class
  there h = lose_class (is_of Payments (record_at first place xs)) (eqb (class_of classes (id_of (record_at first place xs))) c) _ (p.found h)

  same : (x y : ℕ) → x ≡ y → is_repeat first xs y ≡ true → is_repeat first xs x ≡ true
  same x y e t = rw e t

  pub best_next : Best classes first xs count place (c + 1)
  best_next =
      let w = p.within in
      let v = o.within in
      record {
        within = omega arith;
        clean = λ k h l. ⊎_elim (λ (q : class_of classes (id_of (record_at first k xs)) ≡ c). here k h q) (λ (q : class_of classes (id_of (record_at first k xs)) < c). o.clean k (omega arith) q) (eq-or-lt_of_le (le_of_suc-le-suc (rw (← add-one c) l)));
        found = λ h. ⊎_elim (λ (q : place ≡ best). same place best q (o.found (omega arith))) (λ (q : place < best). there q) (eq-or-lt_of_le w);
      }

-- after the first pass
pub best_first : (classes first : ℕ) (xs : List ℕ) (count place : ℕ) → Passed classes 0 first xs count place → Best classes first xs count place 1
best_first classes first xs count place p = best_next classes first xs count count 0 (best_none classes first xs count) place p

-- after all passes
module _ (first : ℕ) (xs : List ℕ) (count : ℕ) (m : count ≡ length xs / 850) where
  pub seek : (place : ℕ) → place ≤ count → ((k : ℕ) → k < place → is_repeat first xs k ≡ false) → Seeking first xs place
  unfolding is_repeat
  seek zero l h = seeking_none first xs
  seek (suc place) l h =
      rw (← add-one place) (seeking_next first xs place count m (omega arith) (seek place (omega arith) (λ k q. h k (omega arith))) (h place (omega arith)))

  module _ (classes best c : ℕ) (p : 0 < classes) (l : classes ≤ c) (o : Best classes first xs count best c) where
    small : (k : ℕ) → class_of classes (id_of (record_at first k xs)) < c
    unfolding class_of
    small k = less (mod-lt _ p)
      where
        less : {x : ℕ} → x < classes → x < c
        less h = omega arith

    pub best_hit : best < count → Some (first + best) ≡ wanted_repeat first xs
    unfolding is_repeat
    best_hit h = seeking_stop first xs best count m h (seek best o.within (λ k q. o.clean k q (small k))) (o.found h)

    pub best_miss : count ≤ best → None ≡ wanted_repeat first xs
    best_miss h = seeking_end first xs best count m h (seek best o.within (λ k q. o.clean k q (small k)))
