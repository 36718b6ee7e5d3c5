-- What a legal division of records into batches and payments is (01 Nesting; 004 sections 1.2 and 1.3). Nothing here reads a file.
use Rattle.std.specs.Prelude.{◌≡◌, ◌⊎◌, List, [], ◌∷◌, ◌++◌, ℕ, ◌+◌, ◌<◌, ◌≤◌, length}
use Rattle.record.specs.Fields.{record_code, payment_id}
use Rattle.record.specs.Value.{held}

-- a record is the list of its bytes
abbrev pub Record : Type 0
Record = List ℕ

-- every member of a list
abbrev pub All : {A : Type 0} → (A → Type 0) → List A → Type 0
All P [] = Unit {0}
All P (x ∷ xs) = P x × All P xs

-- one of a list's members
abbrev pub Among : List ℕ → ℕ → Type 0
Among [] x = ⊥
Among (y ∷ ys) x = (x ≡ y) ⊎ Among ys x

-- a whole record: 850 bytes (01 Bytes)
pub record Whole (r : Record) : Type 0 where
  pub size : length r ≡ 850
  pub bytes : All (λ b. b < 256) r

-- the letters of the batches BN, BC, BW, BI and BA, and of their details (01 Nesting)
abbrev pub letters : List ℕ
letters = 0xD5 ∷ 0xC3 ∷ 0xE6 ∷ 0xC9 ∷ 0xC1 ∷ []  -- N, C, W, I, A

-- the record codes in EBCDIC (01 Bytes, FH being C6 C8)
abbrev pub FH : List ℕ
FH = 0xC6 ∷ 0xC8 ∷ []

abbrev pub FT : List ℕ
FT = 0xC6 ∷ 0xE3 ∷ []

abbrev pub BT : List ℕ
BT = 0xC2 ∷ 0xE3 ∷ []

abbrev pub BC : List ℕ
BC = 0xC2 ∷ 0xC3 ∷ []

abbrev pub DX : List ℕ
DX = 0xC4 ∷ 0xE7 ∷ []

abbrev pub DT : List ℕ
DT = 0xC4 ∷ 0xE3 ∷ []

abbrev pub DP : List ℕ
DP = 0xC4 ∷ 0xD7 ∷ []

-- the code of a batch header and of a detail with this letter
abbrev pub batch_code : ℕ → List ℕ
batch_code letter = 0xC2 ∷ letter ∷ []

abbrev pub detail_code : ℕ → List ℕ
detail_code letter = 0xC4 ∷ letter ∷ []

-- the record has this code
abbrev pub Coded : List ℕ → Record → Type 0
Coded code r = held r record_code ≡ code

-- the record has this code and this Payment ID
abbrev pub Own : List ℕ → List ℕ → Record → Type 0
Own code id r = Coded code r × (held r payment_id ≡ id)

-- a payment: its detail, then its DX, its DT and its DP (01 Nesting)
pub record Payment : Type 0 where
  pub detail : Record
  pub parties : List Record
  pub accounts : List Record
  pub procurements : List Record

-- a batch: its header, its payments and its BT
pub record Batch : Type 0 where
  pub header : Record
  pub payments : List Payment
  pub trailer : Record

-- a file: FH, its batches and FT
pub record Division : Type 0 where
  pub header : Record
  pub batches : List Batch
  pub trailer : Record

-- the records of a payment, of payments, of a batch and of batches in file order, each with the records that follow
abbrev pub payment_onto : Payment → List Record → List Record
payment_onto p rest = p.detail ∷ (p.parties ++ (p.accounts ++ (p.procurements ++ rest)))

abbrev pub payments_onto : List Payment → List Record → List Record
payments_onto [] rest = rest
payments_onto (p ∷ ps) rest = payment_onto p (payments_onto ps rest)

abbrev pub batch_onto : Batch → List Record → List Record
batch_onto b rest = b.header ∷ payments_onto b.payments (b.trailer ∷ rest)

abbrev pub batches_onto : List Batch → List Record → List Record
batches_onto [] rest = rest
batches_onto (b ∷ bs) rest = batch_onto b (batches_onto bs rest)

-- the records of a division in file order
abbrev pub lines : Division → List Record
lines d = d.header ∷ batches_onto d.batches (d.trailer ∷ [])

-- 1 or more DX, 0 to 100 DT, 0 to 100 DP, each with the detail's Payment ID; the detail carries the batch's letter (01 Nesting)
pub record LegalPayment (letter : ℕ) (p : Payment) : Type 0 where
  pub detail : Coded (detail_code letter) p.detail
  pub parties : All (Own DX (held p.detail payment_id)) p.parties
  pub accounts : All (Own DT (held p.detail payment_id)) p.accounts
  pub procurements : All (Own DP (held p.detail payment_id)) p.procurements
  pub some_parties : 1 ≤ length p.parties
  pub few_accounts : length p.accounts ≤ 100
  pub few_procurements : length p.procurements ≤ 100

-- BN, BC, BW, BI or BA; one or more payments; BT (01 Nesting)
pub record LegalBatch (b : Batch) : Type 0 where
  pub letter : ℕ
  pub listed : Among letters letter
  pub header : Coded (batch_code letter) b.header
  pub payments : All (LegalPayment letter) b.payments
  pub some_payments : 1 ≤ length b.payments
  pub trailer : Coded BT b.trailer

-- a check batch, and any other
abbrev pub IsCheck : Batch → Type 0
IsCheck b = Coded BC b.header

abbrev pub NoCheck : Batch → Type 0
NoCheck b = Coded BC b.header → ⊥

-- FH, one or more batches, FT; a file with a BC batch has no other kind of batch (01 Nesting)
pub record LegalFile (d : Division) : Type 0 where
  pub header : Coded FH d.header
  pub batches : All LegalBatch d.batches
  pub some_batches : 1 ≤ length d.batches
  pub one_kind : All IsCheck d.batches ⊎ All NoCheck d.batches
  pub trailer : Coded FT d.trailer

-- the division is legal, and its records are these, nothing after
pub record DivisionOf (rs : List Record) (d : Division) : Type 0 where
  pub whole : lines d ≡ rs
  pub legal : LegalFile d

-- the records have a legal division
abbrev pub Divided : List Record → Type 0
Divided rs = (d : Division) × DivisionOf rs d

-- the records begin a legal file: whole records can follow, any number of them, with which they have a legal division
pub record Begins (rs : List Record) : Type 0 where
  pub more : List Record
  pub whole : All Whole more
  pub divided : Divided (rs ++ more)

-- the records of a batch alone
abbrev pub batch_lines : Batch → List Record
batch_lines b = batch_onto b []

-- the records before a batch: FH and those of the earlier batches
abbrev pub records_before : List Batch → ℕ
records_before earlier = length (batches_onto earlier []) + 1

-- the payments of batches
abbrev pub payment_count : List Batch → ℕ
payment_count [] = 0
payment_count (b ∷ bs) = length b.payments + payment_count bs
