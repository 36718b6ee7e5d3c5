-- A record's code as the code's own types have it, and as Division.antt says it by bytes; places and letters told apart.
-- Assumes nothing.
use mathlib.Core.Path.{◌≡◌, refl, sym, ◌∙◌, ap}
use mathlib.Core.Logic.{◌⊎◌, inl, inr}
use mathlib.Core.Bool.{Bool, true, false, true≢false, ◌&&◌}
use mathlib.Core.List.{List, [], ◌∷◌}
use Prim.Native.Nat.{ℕ, zero, suc, ◌<◌}
use native.Mathlib.Omega.{arith}
use lib.ListN.{length}
use lib.Pointwise.{pointwise}
use lib.Dec.{eqb}
use borrow.Author.Tests.{eqb-true, eqb-false}
use Rattle.record.specs.declared.codes.Letter.{Letter}
use Rattle.record.specs.declared.codes.Letter.TheVariants.{N, C, W, I, A}
use Rattle.record.specs.declared.codes.Code.{Code}
use Rattle.record.specs.declared.codes.Code.TheVariants.{FileHeader, Batch, Detail, Party, Account, Procurement, BatchTrailer, FileTrailer, Unknown}
use Rattle.record.specs.Choice.{◌and◌}
use Rattle.record.specs.Fields.{record_code}
use Rattle.record.specs.Tests.{alike}
use Rattle.record.specs.Value.{held}
use Rattle.record.specs.Codes.{letter_byte, code_bytes, code_in, codes, code_of, letter_in}
use Rattle.record.proofs.CodeList.{codes_apart, code_bytes_holds}
use denote.Enum.Bare.{sameb, true_same, false_same}
use Rattle.record.specs.contracts.codes.Letter as Letter-type
use denote.Enum.Declared.{tag_of}
use Rattle.nesting.specs.contracts.reader.Place as Place-type
use Rattle.nesting.specs.declared.reader.Place.{Place}
use Rattle.nesting.specs.declared.reader.Place.TheVariants.{Start, FileOpen, BatchOpen, PaymentOpen, BatchClosed, FileClosed}
use Rattle.nesting.specs.declared.reader.State.{State}
use Rattle.nesting.specs.Division.{Record, All, Coded, Among, letters, BC, batch_code}
use Rattle.nesting.specs.Reader.{place_number, is_at, same_letter, is_check}

-- a record with the bytes of a code has the code
pub of_bytes : (c : Code) (r : Record) → Coded (code_bytes c) r → code_of r ≡ c
unfolding code_of
of_bytes c r e = ap (code_in codes) e ∙ codes_apart c

-- one of the sixteen codes
abbrev pub known : Code → Bool
known FileHeader = true
known (Batch l) = true
known (Detail l) = true
known Party = true
known Account = true
known Procurement = true
known BatchTrailer = true
known FileTrailer = true
known Unknown = false

-- a record with a code has its bytes
pub to_bytes : (c : Code) (r : Record) → known c ≡ true → code_of r ≡ c → Coded (code_bytes c) r
unfolding code_of
to_bytes c r k e = go (code_bytes_holds codes (held r record_code))
  where
    go : (code_in codes (held r record_code) ≡ Unknown) ⊎ (held r record_code ≡ code_bytes (code_in codes (held r record_code))) → Coded (code_bytes c) r
    go (inl u) = absurd (true≢false (sym k ∙ ap known (sym e ∙ u)))
    go (inr b) = b ∙ ap code_bytes e

-- which are two
letter_below : (l : Letter) → letter_byte l < 256
unfolding letter_byte
letter_below N = omega arith
letter_below C = omega arith
letter_below W = omega arith
letter_below I = omega arith
letter_below A = omega arith

pub two_bytes : (c : Code) → known c ≡ true → (length (code_bytes c) ≡ 2) × All (λ b. b < 256) (code_bytes c)
unfolding code_bytes
two_bytes FileHeader k = (refl, (omega arith, (omega arith, tt)))
two_bytes (Batch l) k = (refl, (omega arith, (letter_below l, tt)))
two_bytes (Detail l) k = (refl, (omega arith, (letter_below l, tt)))
two_bytes Party k = (refl, (omega arith, (omega arith, tt)))
two_bytes Account k = (refl, (omega arith, (omega arith, tt)))
two_bytes Procurement k = (refl, (omega arith, (omega arith, tt)))
two_bytes BatchTrailer k = (refl, (omega arith, (omega arith, tt)))
two_bytes FileTrailer k = (refl, (omega arith, (omega arith, tt)))
two_bytes Unknown k = absurd (true≢false (sym k))

-- the letters of Division.antt are the five of the code
pub listed : (l : Letter) → Among letters (letter_byte l)
unfolding letter_byte
listed N = inl refl
listed C = inr (inl refl)
listed W = inr (inr (inl refl))
listed I = inr (inr (inr (inl refl)))
listed A = inr (inr (inr (inr (inl refl))))

pub lettered : (b : ℕ) → Among letters b → (l : Letter) × (b ≡ letter_byte l)
unfolding letter_byte
lettered b (inl e) = (N, e)
lettered b (inr (inl e)) = (C, e)
lettered b (inr (inr (inl e))) = (W, e)
lettered b (inr (inr (inr (inl e)))) = (I, e)
lettered b (inr (inr (inr (inr (inl e))))) = (A, e)
lettered b (inr (inr (inr (inr (inr e))))) = absurd e

pub same_letter_holds : (l m : Letter) → same_letter l m ≡ true → l ≡ m
unfolding same_letter code_bytes letter_in
same_letter_holds l m e =
    let h : code_bytes (Batch l) ≡ code_bytes (Batch m) = ap batch_code (eqb-true (letter_byte l) (letter_byte m) e) in
    ap letter_in (sym (codes_apart (Batch l)) ∙ ap (code_in codes) h ∙ codes_apart (Batch m))

-- the derived test of two letters is the test of their bytes
pub same_letters : (l m : Letter) → sameb Letter-type.the_type l m ≡ same_letter l m
unfolding same_letter
same_letters l m = go (same_letter l m) refl
  where
    go : (b : Bool) → same_letter l m ≡ b → sameb Letter-type.the_type l m ≡ b
    go true e = true_same Letter-type.the_type l m (same_letter_holds l m e)
    go false e = false_same Letter-type.the_type tt l m (λ q. eqb-false (letter_byte l) (letter_byte m) e (ap letter_byte q))

pub is_check_letter : (l : Letter) → sameb Letter-type.the_type l C ≡ is_check l
unfolding is_check same_letter letter_byte
is_check_letter l = same_letters l C

-- a batch of a check letter is a check batch, and no other is
abbrev pub Beside : Bool → Record → Type 0
Beside true r = Coded BC r
Beside false r = Coded BC r → ⊥

pub beside : (l : Letter) (r : Record) → code_of r ≡ Batch l → Beside (is_check l) r
unfolding is_check letter_byte letter_in code_bytes
beside l r e = go (is_check l) refl
  where
    go : (t : Bool) → is_check l ≡ t → Beside t r
    go true k = to_bytes (Batch l) r refl e ∙ ap batch_code (eqb-true (letter_byte l) 0xC3 k)
    go false k = λ h. true≢false (sym (ap (λ (c : Code). is_check (letter_in c)) (sym e ∙ of_bytes (Batch C) r h)) ∙ k)

-- the derived test of two places is the test of their numbers
place_tag : (p : Place) → tag_of Place-type.the_type p ≡ place_number p
unfolding place_number
place_tag Start = refl
place_tag FileOpen = refl
place_tag BatchOpen = refl
place_tag PaymentOpen = refl
place_tag BatchClosed = refl
place_tag FileClosed = refl

pub same_place : (p q : Place) → sameb Place-type.the_type p q ≡ eqb (place_number p) (place_number q)
same_place p q = rw (place_tag p, place_tag q)

-- the library's test of two arrays is the test over the full width
pub same_bytes : (xs ys : List ℕ) → pointwise eqb xs ys ≡ alike xs ys
unfolding alike ◌and◌
same_bytes [] [] = refl
same_bytes [] (y ∷ ys) = refl
same_bytes (x ∷ xs) [] = refl
same_bytes (x ∷ xs) (y ∷ ys) = rw (same_bytes xs ys) (go (eqb x y))
  where
    go : (b : Bool) → (b && alike xs ys) ≡ (b and alike xs ys)
    go true = refl
    go false = refl

place_of : ℕ → Place
place_of zero = Start
place_of (suc zero) = FileOpen
place_of (suc (suc zero)) = BatchOpen
place_of (suc (suc (suc zero))) = PaymentOpen
place_of (suc (suc (suc (suc zero)))) = BatchClosed
place_of (suc (suc (suc (suc (suc n))))) = FileClosed

own_place : (p : Place) → place_of (place_number p) ≡ p
unfolding place_of place_number
own_place Start = refl
own_place FileOpen = refl
own_place BatchOpen = refl
own_place PaymentOpen = refl
own_place BatchClosed = refl
own_place FileClosed = refl

pub at_place : (s : State) (p : Place) → is_at s p ≡ true → s.place ≡ p
unfolding is_at
at_place s p e = sym (own_place s.place) ∙ ap place_of (eqb-true (place_number s.place) (place_number p) e) ∙ own_place p
