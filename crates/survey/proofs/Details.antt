-- What a detail adds to the sum of a file, and what the sum comes to over a legal division.
-- Assumes nothing.
use mathlib.Core.Path.{◌≡◌, refl, ◌∙◌, ap}
use mathlib.Core.Bool.{Bool, true, false}
use mathlib.Core.List.{List, [], ◌∷◌, ◌++◌}
use Prim.Native.Nat.{ℕ, ◌+◌, ◌<◌, ◌≤◌}
use native.Mathlib.Omega.{arith}
use lib.ListN.{length}
use Rattle.record.specs.declared.codes.Code.{Code}
use Rattle.record.specs.declared.codes.Code.TheVariants as code
use Rattle.record.specs.Choice.{choose}
use Rattle.record.specs.Fields.{amount}
use Rattle.page.specs.CodePage.{shown}
use Rattle.record.specs.Value.{held}
use Rattle.record.specs.Codes.{code_of, code_bytes, is_detail}
use Rattle.record.proofs.Held.{held_length}
use Rattle.money.specs.declared.Amount.{Amount}
use Rattle.money.specs.Money.{split, cents, total}
use Rattle.money.proofs.Amounts.{cents_below}
use Rattle.nesting.specs.Division.{Record, All, Among, letters, Coded, Own, batch_code, detail_code, Payment, Batch, Division, payment_onto, payments_onto, batch_onto, batches_onto, lines, LegalPayment, LegalBatch, LegalFile}
use Rattle.nesting.specs.Paid.{paid, paid_by, paid_by_all}
use Rattle.nesting.proofs.Coding.{of_bytes, lettered}
use Rattle.survey.specs.Pass.{detail_cents, paid_in}

-- what a record adds, its code being known
module _ (r : Record) (k : Code) (e : k ≡ code_of r) (t : Bool) (h : t ≡ is_detail k) where
  pub some_amount : t ≡ true → (a : Amount) → a ≡ split (cents (held r amount)) → a ≡ split (detail_cents r)
  unfolding choose
  some_amount y a q = rw (← e, ← h, y) q

  pub no_amount : t ≡ false → record { high = 0; low = 0 } ≡ split (detail_cents r)
  unfolding choose split
  no_amount y = rw (← e, ← h, y)

-- a record adds less than 10^20 cents
pub cents_small : (ascii : Bool) (rec : List ℕ) → 850 ≤ length rec → detail_cents (shown ascii rec) < 100000000000000000000
unfolding choose
cents_small ascii rec h = go (is_detail (code_of (shown ascii rec)))
  where
    go : (b : Bool) → choose b (cents (held (shown ascii rec) amount)) 0 < 100000000000000000000
    go true = cents_below _ (omega (arith, held_length ascii rec amount (omega arith, omega (arith, h))))
    go false = omega arith

-- a record that is no detail adds nothing
paid_past : (c : Code) (r : Record) (rs : List Record) → Coded (code_bytes c) r → is_detail c ≡ false → paid_in (r ∷ rs) ≡ paid_in rs
unfolding paid_in choose
paid_past c r rs h e = rw (of_bytes c r h, e) (omega arith)

paid_own : (c : Code) (id : List ℕ) (rs rest : List Record) → is_detail c ≡ false → All (Own (code_bytes c) id) rs → paid_in (rs ++ rest) ≡ paid_in rest
paid_own c id [] rest e hs = refl
paid_own c id (r ∷ rs) rest e hs = paid_past c r (rs ++ rest) hs.0.0 e ∙ paid_own c id rs rest e hs.1

-- a detail adds its payment's cents
paid_detail : (letter : ℕ) (p : Payment) (rest : List Record) → Among letters letter → Coded (detail_code letter) p.detail → paid_in (p.detail ∷ rest) ≡ paid p + paid_in rest
unfolding paid_in paid choose is_detail code_bytes
paid_detail letter p rest m h =
    let l = lettered letter m in
    rw (of_bytes (code.Detail l.0) p.detail (h ∙ ap detail_code l.1))

paid_payment : (letter : ℕ) (p : Payment) (rest : List Record) → Among letters letter → LegalPayment letter p → paid_in (payment_onto p rest) ≡ paid p + paid_in rest
unfolding is_detail code_bytes
paid_payment letter p rest m g =
    paid_detail letter p _ m g.detail
    ∙ ap (◌+◌ (paid p))
    (paid_own code.Party _ p.parties _ refl g.parties
    ∙ paid_own code.Account _ p.accounts _ refl g.accounts
    ∙ paid_own code.Procurement _ p.procurements rest refl g.procurements)

paid_payments : (letter : ℕ) (ps : List Payment) (rest : List Record) → Among letters letter → All (LegalPayment letter) ps → paid_in (payments_onto ps rest) ≡ paid_by ps + paid_in rest
unfolding paid_by total
paid_payments letter [] rest m gs = omega arith
paid_payments letter (p ∷ ps) rest m gs =
    paid_payment letter p (payments_onto ps rest) m gs.0 ∙ rw (paid_payments letter ps rest m gs.1) (omega arith)

paid_batch : (b : Batch) (rest : List Record) → LegalBatch b → paid_in (batch_onto b rest) ≡ paid_by b.payments + paid_in rest
unfolding is_detail code_bytes
paid_batch b rest g =
    let l = lettered g.letter g.listed in
    paid_past (code.Batch l.0) b.header _ (g.header ∙ ap batch_code l.1) refl
    ∙ paid_payments g.letter b.payments (b.trailer ∷ rest) g.listed g.payments
    ∙ ap (◌+◌ (paid_by b.payments)) (paid_past code.BatchTrailer b.trailer rest g.trailer refl)

paid_batches : (bs : List Batch) (rest : List Record) → All LegalBatch bs → paid_in (batches_onto bs rest) ≡ paid_by_all bs + paid_in rest
unfolding paid_by_all total
paid_batches [] rest gs = omega arith
paid_batches (b ∷ bs) rest gs = paid_batch b (batches_onto bs rest) gs.0 ∙ rw (paid_batches bs rest gs.1) (omega arith)

-- the sum of a legal file's details is that of its batches' payments
pub paid_divided : (d : Division) → LegalFile d → paid_in (lines d) ≡ paid_by_all d.batches
unfolding is_detail code_bytes paid_in
paid_divided d g =
    paid_past code.FileHeader d.header (batches_onto d.batches (d.trailer ∷ [])) g.header refl
    ∙ paid_batches d.batches (d.trailer ∷ []) g.batches
    ∙ rw (paid_past code.FileTrailer d.trailer [] g.trailer refl) (omega arith)
