-- A chain of tests, as a search goes down it: each law applies where its test is known.
-- Assumes nothing.
use mathlib.Core.Path.{◌≡◌, refl, sym, ◌∙◌}
use mathlib.Core.Bool.{Bool, true, false, not, true≢false}
use Prim.Native.Nat.{ℕ}
use lib.Dec.{eqb}
use borrow.Author.Tests.{not-true, not-false, lt-leb, le-leb, lt-ltb, le-ltb, eq-eqb, ne_eqb}
use Rattle.record.specs.Choice.{◌and◌, ◌or◌, choose}

pub and_no : (a b : Bool) → a ≡ false → false ≡ (a and b)
unfolding ◌and◌
and_no a b e = rw e

pub and_yes : (a b x : Bool) → a ≡ true → x ≡ b → x ≡ (a and b)
unfolding ◌and◌
and_yes a b x e h = rw e h

pub or_yes : (a b : Bool) → a ≡ true → true ≡ (a or b)
unfolding ◌or◌
or_yes a b e = rw e

pub or_no : (a b x : Bool) → a ≡ false → x ≡ b → x ≡ (a or b)
unfolding ◌or◌
or_no a b x e h = rw e h

pub choose_yes : {A : Type 0} (t : Bool) (a b x : A) → t ≡ true → x ≡ a → x ≡ choose t a b
unfolding choose
choose_yes t a b x e h = rw e h

pub choose_no : {A : Type 0} (t : Bool) (a b x : A) → t ≡ false → x ≡ b → x ≡ choose t a b
unfolding choose
choose_no t a b x e h = rw e h

-- what two tests that hold say of each
pub and_left : (a b : Bool) → (a and b) ≡ true → a ≡ true
unfolding ◌and◌
and_left true b e = refl
and_left false b e = e

pub and_right : (a b : Bool) → (a and b) ≡ true → b ≡ true
unfolding ◌and◌
and_right true b e = e
and_right false b e = absurd (true≢false (sym e))

pub and_false : (a : Bool) → (a and false) ≡ false
unfolding ◌and◌
and_false true = refl
and_false false = refl

pub and_true : (a : Bool) → (a and true) ≡ a
unfolding ◌and◌
and_true true = refl
and_true false = refl

pub or_true : (a : Bool) → (a or true) ≡ true
unfolding ◌or◌
or_true true = refl
or_true false = refl

-- what a call's result says, where the result was tested
pub told : {A : Type 0} (r x b : A) → r ≡ x → r ≡ b → x ≡ b
told r x b e t = sym e ∙ t

-- the same of a test that was turned round, and of a byte that was compared
pub told_not : (r x : Bool) → r ≡ x → not r ≡ true → x ≡ false
told_not r x e t = sym e ∙ not-true r t

pub told_yes : (r x : Bool) → r ≡ x → not r ≡ false → x ≡ true
told_yes r x e t = sym e ∙ not-false r t

pub read_is : (x y k : ℕ) → x ≡ y → x ≡ k → eqb y k ≡ true
read_is x y k e h = eq-eqb y k (sym e ∙ h)

pub read_not : (x y k : ℕ) → x ≡ y → (x ≡ k → ⊥) → eqb y k ≡ false
read_not x y k e h = ne_eqb y k (λ q. h (e ∙ q))

pub ruleset tests = (lt-leb, le-leb, lt-ltb, le-ltb, eq-eqb, ne_eqb)

pub ruleset reads = (told, told_not, told_yes, read_is, read_not)

pub ruleset chain = (and_no, and_yes, or_yes, or_no, choose_yes, choose_no, tests)
