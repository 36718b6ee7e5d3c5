-- Whole records: the bytes of what they hold, and a record made with a code and a Payment ID.
-- Assumes nothing.
use mathlib.Core.Path.{◌≡◌, ap, ◌∙◌}
use mathlib.Core.Bool.{Bool, true, false}
use mathlib.Core.List.{List, [], ◌∷◌, ◌++◌}
use Prim.Native.Nat.{ℕ, zero, suc, ◌-◌, ◌<◌}
use native.Mathlib.Omega.{arith}
use lib.Dec.{eqb}
use lib.ListN.{length, take, drop, replicate, length-append, length-replicate, length-take, length-drop}
use lib.Seq.{take_at, drop_at}
use Rattle.record.specs.Fields.{payment_id}
use Rattle.record.specs.declared.Justification.TheVariants.{Text}
use Rattle.record.specs.Choice.{choose}
use Rattle.record.specs.Correction.{from_first, moved_left, corrected}
use Rattle.record.specs.Value.{written, held}
use Rattle.record.proofs.Corrected.{corrected_length, corrected_twice}
use Rattle.nesting.specs.Division.{Record, All, Coded, Whole}

-- of the members of a beginning, of an end, of two lists, of equal ones
pub all_take : {A : Type 0} (Q : A → Type 0) (n : ℕ) (xs : List A) → All Q xs → All Q (take n xs)
all_take Q zero xs h = tt
all_take Q (suc n) [] h = tt
all_take Q (suc n) (x ∷ xs) h = (h.0, all_take Q n xs h.1)

pub all_drop : {A : Type 0} (Q : A → Type 0) (n : ℕ) (xs : List A) → All Q xs → All Q (drop n xs)
all_drop Q zero xs h = h
all_drop Q (suc n) [] h = tt
all_drop Q (suc n) (x ∷ xs) h = all_drop Q n xs h.1

pub all_append : {A : Type 0} (Q : A → Type 0) (xs ys : List A) → All Q xs → All Q ys → All Q (xs ++ ys)
all_append Q [] ys h k = k
all_append Q (x ∷ xs) ys h k = (h.0, all_append Q xs ys h.1 k)

pub all_replicate : {A : Type 0} (Q : A → Type 0) (n : ℕ) (x : A) → Q x → All Q (replicate n x)
all_replicate Q zero x h = tt
all_replicate Q (suc n) x h = (h, all_replicate Q n x h)

abbrev pub Bytes : List ℕ → Type 0
Bytes xs = All (λ b. b < 256) xs

-- of text that is moved left
all_first : (Q : ℕ → Type 0) (xs : List ℕ) → All Q xs → All Q (from_first xs)
unfolding from_first choose
all_first Q [] h = tt
all_first Q (x ∷ xs) h = go (eqb x 0x40) (all_first Q xs h.1)
  where
    go : (t : Bool) → All Q (from_first xs) → All Q (choose t (from_first xs) (x ∷ xs))
    go true k = k
    go false k = h

-- a whole record's Payment ID is twenty bytes, and is moved left already
pub id_size : (r : Record) → Whole r → length (held r payment_id) ≡ 20
unfolding held written
id_size r w = corrected_length Text (take 20 (drop 2 r)) ∙ simp (length-take, length-drop) (omega (arith, w.size))

pub id_bytes : (r : Record) → Whole r → Bytes (held r payment_id)
unfolding held written corrected moved_left
id_bytes r w =
    let xs = take 20 (drop 2 r) in
    all_append (λ b. b < 256) (from_first xs) (replicate (length xs - length (from_first xs)) 0x40) (all_first (λ b. b < 256) xs (all_take (λ b. b < 256) 20 (drop 2 r) (all_drop (λ b. b < 256) 2 r w.bytes)))
    (all_replicate (λ b. b < 256) (length xs - length (from_first xs)) 0x40 (omega arith))

pub id_moved : (r : Record) → corrected Text (held r payment_id) ≡ held r payment_id
unfolding held
id_moved r = corrected_twice Text (written r payment_id)

-- the record of a code and an ID, blank after them
unfoldable pub made : List ℕ → List ℕ → Record
made code id = code ++ (id ++ replicate 828 0x40)

module _ (code id : List ℕ) (m : length code ≡ 2) (n : length id ≡ 20) where
  pub made_code : Coded code (made code id)
  unfolding held written corrected made
  made_code = take_at code (id ++ replicate 828 0x40) 2 m

  pub made_id : corrected Text id ≡ id → held (made code id) payment_id ≡ id
  unfolding held written made
  made_id e =
      ap (λ (xs : List ℕ). corrected Text (take 20 xs)) (drop_at code (id ++ replicate 828 0x40) 2 m) ∙ ap (corrected Text) (take_at id (replicate 828 0x40) 20 n) ∙ e

  pub made_whole : Bytes code → Bytes id → Whole (made code id)
  unfolding made
  made_whole b c =
      record {
        size = simp (length-append, length-replicate) (omega arith);
        bytes = all_append (λ x. x < 256) code _ b (all_append (λ x. x < 256) id _ c (all_replicate (λ x. x < 256) 828 0x40 (omega arith)));
      }
