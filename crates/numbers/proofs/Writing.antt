-- Bytes written one after the other from the start of a part: those written, then those left to write, are the whole.
-- Assumes nothing.
use mathlib.Core.Path.{◌≡◌, refl, sym, ◌∙◌}
use mathlib.Core.List.{List, [], ◌∷◌, ◌++◌, append_assoc, append-nil}
use Prim.Native.Nat.{ℕ, suc, ◌+◌, ◌-◌, ◌/◌, ◌%◌, ◌<◌, ◌≤◌}
use native.Mathlib.Omega.{arith}
use lib.ListN.{length, take, drop, set, length-append, length-set}
use lib.Seq.{length-take-le, take_all, take_at, set_split}
use Rattle.numbers.specs.Numbers.{little}

-- the first `at` bytes of the part, then those left, are the whole
unfoldable pub Written : List ℕ → ℕ → List ℕ → List ℕ → Type 0
Written part at left whole = take at part ++ left ≡ whole

pub written_none : (part whole : List ℕ) → Written part 0 whole whole
unfolding Written
written_none part whole = refl

pub written_all : (part whole : List ℕ) (at : ℕ) → length part ≤ at → Written part at [] whole → part ≡ whole
unfolding Written
written_all part whole at h w = sym (append-nil part) ∙ rw (take_all at part h) at w

pub written_more : (part whole more left after : List ℕ) (at to : ℕ) → at ≤ length part → at + length more ≡ to → Written part at (more ++ left) whole
    → Written (take at part ++ (more ++ after)) to left whole
unfolding Written
written_more part whole more left after at to h e w =
    let front : length (take at part ++ more) ≡ to = length-append (take at part) more ∙ omega (arith, length-take-le at part h) in
    rw (← append_assoc (take at part) more after, take_at (take at part ++ more) after to front) (append_assoc (take at part) more left ∙ w)

-- a number's bytes before the i-th are written into a part of that width
pub record Filled (width number : ℕ) (part : List ℕ) (left i : ℕ) : Type 0 where
  pub wide : length part ≡ width
  pub upto : i ≤ width
  pub written : Written part i (little (width - i) left) (little width number)

pub filled_none : (part : List ℕ) (number : ℕ) → Filled (length part) number part number 0
filled_none part number =
    let e : length part - 0 ≡ length part = omega arith in
    record { wide = refl; upto = omega arith; written = rw e (written_none part (little (length part) number)) }

pub filled_next : (width number : ℕ) (part : List ℕ) (left i : ℕ) → i < length part → Filled width number part left i
    → Filled width number (set part i (left % 256)) (left / 256) (i + 1)
unfolding little
filled_next width number part left i h f =
    let e : width - i ≡ suc (width - (i + 1)) = omega (arith, f.wide) in
    record {
      wide = length-set part i (left % 256) ∙ f.wide;
      upto = omega (arith, f.wide);
      written =
          rw (set_split part i (left % 256) h)
          (written_more part (little width number) (left % 256 ∷ []) (little (width - (i + 1)) (left / 256)) (drop (suc i) part) i (i + 1) (omega arith) (omega arith) (rw e at f.written));
    }

pub filled_all : (width number : ℕ) (part : List ℕ) (left i : ℕ) → length part ≤ i → Filled width number part left i → part ≡ little width number
unfolding little
filled_all width number part left i h f =
    let e : width - i ≡ 0 = omega (arith, f.wide) in
    written_all part (little width number) i h (rw e at f.written)
