-- Worked examples of routing numbers, each with its answer, and that every one is right.
-- Assumes nothing.
use Prim.Native.Nat.{ℕ, ◌+◌, ◌/◌, ◌%◌}
use mathlib.Core.Path.{◌≡◌, refl}
use mathlib.Core.Bool.{Bool, true, false, beq}
use mathlib.Core.List.{List, [], ◌∷◌}
use lib.ListN.{replicate}
use Rattle.record.specs.Choice.{◌and◌, ◌or◌}
use Rattle.record.specs.Tests.{every, digit, digits}
use Rattle.record.specs.Numeral.{numeral, numeral_from}
use Rattle.record.specs.Routing.{prefix_listed, routing}

-- nine digits that begin with two
number : ℕ → List ℕ
number p = (0xF0 + p / 10) ∷ (0xF0 + p % 10) ∷ replicate 7 0xF0

pub right : List (ℕ × Bool) → Bool
right [] = true
right (r ∷ rs) = beq (routing (number r.0)) r.1 and right rs

-- document 01: 12 and 80 pass, 13 and 81 fail; 21 and 72 pass, 20 and 33 fail; nine zeros pass
pub prefixes : List (ℕ × Bool)
prefixes =
    (12, true) ∷ (80, true) ∷ (13, false) ∷ (81, false) ∷ (21, true) ∷ (72, true) ∷ (20, false) ∷ (33, false) ∷ (0, true) ∷ []

pub prefixes_right : right prefixes ≡ true
unfolding right prefixes number routing prefix_listed digits digit every numeral numeral_from ◌and◌ ◌or◌
prefixes_right = refl
