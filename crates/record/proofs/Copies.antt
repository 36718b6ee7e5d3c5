-- Bytes copied one by one: one more, and all of them; and the value at a place.
-- Assumes nothing.
use mathlib.Core.Path.{◌≡◌, refl, ap, sym, ◌∙◌}
use mathlib.Core.Bool.{Bool, true, false}
use mathlib.Core.List.{List}
use Prim.Native.Nat.{ℕ, ◌+◌, ◌<◌, ◌≤◌}
use native.Mathlib.Numerals.{add-one}
use native.Mathlib.Omega.{arith}
use lib.ListN.{length, take, get_or, set}
use lib.Seq.{take-suc-set, take-suc, take_all}
use Rattle.page.specs.CodePage.{shown}
use Rattle.record.specs.declared.place.Place.{Place}
use Rattle.record.specs.Place.{value, sent}
use Rattle.record.proofs.Sent.{plain_sent, value_sent}

-- the first i bytes are copied
unfoldable pub Copied : List ℕ → List ℕ → ℕ → Type 0
Copied copy bytes i = take i copy ≡ take i bytes

pub copied_none : (copy bytes : List ℕ) → Copied copy bytes 0
unfolding Copied
copied_none copy bytes = refl

module _ (bytes copy : List ℕ) (m : ℕ) (k : length bytes ≡ m) (n : length copy ≡ m) (i : ℕ) (l : Copied copy bytes i) where
  pub copied_next : (y : ℕ) → i < m → y ≡ get_or bytes i 0 → Copied (set copy i y) bytes (i + 1)
  unfolding Copied
  copied_next y h e =
      let a : i < length copy = omega arith in
      let b : i < length bytes = omega arith in
      rw (add-one, take-suc-set, take-suc bytes i 0, e, l)

  pub copied_all : m ≤ i → copy ≡ bytes
  unfolding Copied
  copied_all h = sym (take_all i copy (omega arith)) ∙ l ∙ take_all i bytes (omega arith)

-- the value: translated where the bytes are ASCII
pub value_copied : (rec : List ℕ) (p : Place) (copy : List ℕ) → p.ascii ≡ false → copy ≡ sent rec p → copy ≡ value rec p
value_copied rec p copy q e = e ∙ sym (plain_sent rec p q)

pub value_shown : (rec : List ℕ) (p : Place) (copy after : List ℕ) → p.ascii ≡ true → copy ≡ sent rec p → after ≡ shown true copy → after ≡ value rec p
value_shown rec p copy after q e t = t ∙ ap (shown true) e ∙ sym (value_sent rec p ∙ ap (λ (b : Bool). shown b (sent rec p)) q)
