-- What may follow where the reader stands: the rest of a legal division, with B batches and P payments in all.
-- Assumes nothing.
use mathlib.Core.Path.{◌≡◌, sym, subst}
use mathlib.Core.Bool.{Bool, false}
use mathlib.Core.List.{List, [], ◌∷◌, ◌++◌}
use Prim.Native.Nat.{ℕ, ◌+◌, ◌-◌, ◌≤◌}
use lib.ListN.{length}
use Rattle.record.specs.declared.codes.Letter.{Letter}
use Rattle.record.specs.Codes.{letter_byte}
use Rattle.nesting.specs.declared.reader.Place.{Place}
use Rattle.nesting.specs.declared.reader.Place.TheVariants.{Start, FileOpen, BatchOpen, PaymentOpen, BatchClosed, FileClosed}
use Rattle.nesting.specs.declared.reader.State.{State}
use Rattle.nesting.specs.Division.{Record, All, DX, DT, DP, BT, FT, Coded, Own, Payment, Batch, Division, payments_onto, batches_onto, LegalPayment, LegalBatch, DivisionOf, payment_count}
use Rattle.nesting.specs.Reader.{is_check}
use Rattle.nesting.proofs.Coding.{Beside}

-- batches, all for checks or none, and FT; b batches and p payments came before
pub record Tail (check : Bool) (b p B P : ℕ) (rs : List Record) : Type 0 where
  pub batches : List Batch
  pub trailer : Record
  pub whole : batches_onto batches (trailer ∷ []) ≡ rs
  pub legal : All LegalBatch batches
  pub kind : All (λ (c : Batch). Beside check c.header) batches
  pub end : Coded FT trailer
  pub counted : B ≡ b + length batches
  pub paid : P ≡ p + payment_count batches

-- payments of a batch, its BT, and a tail
pub record Batched (l : Letter) (b p B P : ℕ) (rs : List Record) : Type 0 where
  pub payments : List Payment
  pub trailer : Record
  pub rest : List Record
  pub whole : payments_onto payments (trailer ∷ rest) ≡ rs
  pub legal : All (LegalPayment (letter_byte l)) payments
  pub end : Coded BT trailer
  pub tail : Tail (is_check l) b (p + length payments) B P rest

-- what is left of an open payment, and the rest of its batch
pub record Paying (l : Letter) (id : List ℕ) (party : Bool) (accounts procurements b p B P : ℕ) (rs : List Record) : Type 0 where
  pub dxs : List Record
  pub dts : List Record
  pub dps : List Record
  pub rest : List Record
  pub whole : dxs ++ (dts ++ (dps ++ rest)) ≡ rs
  pub own_dxs : All (Own DX id) dxs
  pub own_dts : All (Own DT id) dts
  pub own_dps : All (Own DP id) dps
  pub some : party ≡ false → 1 ≤ length dxs
  pub first_dxs : 1 ≤ length dxs → (accounts ≡ 0) × (procurements ≡ 0)
  pub first_dts : 1 ≤ length dts → procurements ≡ 0
  pub few_dts : length dts ≤ 100 - accounts
  pub few_dps : length dps ≤ 100 - procurements
  pub batched : Batched l b p B P rest

-- one or more payments
pub record Begun (l : Letter) (b p B P : ℕ) (rs : List Record) : Type 0 where
  pub batched : Batched l b p B P rs
  pub some : 1 ≤ length batched.payments

-- one or more batches
pub record Opened (b p B P : ℕ) (rs : List Record) : Type 0 where
  pub check : Bool
  pub tail : Tail check b p B P rs
  pub some : 1 ≤ length tail.batches

-- nothing has been read: a whole division
pub record Unopened (b p B P : ℕ) (rs : List Record) : Type 0 where
  pub division : Division
  pub divides : DivisionOf rs division
  pub counted : B ≡ b + length division.batches
  pub paid : P ≡ p + payment_count division.batches

-- nothing
pub record Ended (b p B P : ℕ) (rs : List Record) : Type 0 where
  pub whole : [] ≡ rs
  pub counted : B ≡ b
  pub paid : P ≡ p

-- by the place
abbrev pub RestAt : Place → State → ℕ → ℕ → List Record → Type 0
RestAt Start s B P rs = Unopened s.batches s.payments B P rs
RestAt FileOpen s B P rs = Opened s.batches s.payments B P rs
RestAt BatchOpen s B P rs = Begun s.letter s.batches s.payments B P rs
RestAt PaymentOpen s B P rs = Paying s.letter s.id s.party s.accounts s.procurements s.batches s.payments B P rs
RestAt BatchClosed s B P rs = Tail (is_check s.letter) s.batches s.payments B P rs
RestAt FileClosed s B P rs = Ended s.batches s.payments B P rs

pub record Rest (s : State) (B P : ℕ) (rs : List Record) : Type 0 where
  pub left : RestAt s.place s B P rs

-- at a known place
pub at : (s : State) (B P : ℕ) (rs : List Record) (p : Place) → s.place ≡ p → RestAt p s B P rs → Rest s B P rs
at s B P rs p e h = record { left = subst (λ (q : Place). RestAt q s B P rs) (sym e) h }

pub from : (s : State) (B P : ℕ) (rs : List Record) (p : Place) → s.place ≡ p → Rest s B P rs → RestAt p s B P rs
from s B P rs p e h = subst (λ (q : Place). RestAt q s B P rs) e h.left
