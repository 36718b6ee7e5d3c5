-- Where a division exists there is one only: the records' codes alone, read from the right, give it back.
-- Assumes nothing.
use mathlib.Core.Path.{◌≡◌, refl, sym, ◌∙◌, ap}
use mathlib.Core.List.{List, [], ◌∷◌, ◌++◌}
use Prim.Native.Nat.{ℕ}
use Rattle.record.specs.declared.codes.Letter.{Letter}
use Rattle.record.specs.declared.codes.Code.{Code}
use Rattle.record.specs.declared.codes.Code.TheVariants.{FileHeader, Detail, Party, Account, Procurement, BatchTrailer, FileTrailer, Unknown}
use Rattle.record.specs.declared.codes.Code.TheVariants as code
use Rattle.record.specs.Fields.{payment_id}
use Rattle.record.specs.Value.{held}
use Rattle.record.specs.Codes.{letter_byte, code_bytes}
use Rattle.nesting.specs.Division.{Record, All, batch_code, detail_code, Coded, Own, Payment, Batch, Division, payments_onto, batches_onto, LegalPayment, LegalBatch, DivisionOf}
use Rattle.nesting.proofs.Coding.{of_bytes, lettered}

-- what has been read: of a payment without its detail, of a batch without its header, and of the file
data Read : Type 0 where
  parts : (fh : Record) (dxs dts dps : List Record) (ps : List Payment) (bt : Record) (bs : List Batch) (ft : Record) → Read

abbrev division : Read → Division
division (parts fh dxs dts dps ps bt bs ft) = record { header = fh; batches = bs; trailer = ft }

-- one record more, by its code
abbrev push : Code → Record → Read → Read
push FileHeader r (parts fh dxs dts dps ps bt bs ft) = parts r dxs dts dps ps bt bs ft
push (code.Batch l) r (parts fh dxs dts dps ps bt bs ft) = parts fh dxs dts dps [] [] (record { header = r; payments = ps; trailer = bt } ∷ bs) ft
push (Detail l) r (parts fh dxs dts dps ps bt bs ft) =
    parts fh [] [] [] (record { detail = r; parties = dxs; accounts = dts; procurements = dps } ∷ ps) bt bs ft
push Party r (parts fh dxs dts dps ps bt bs ft) = parts fh (r ∷ dxs) dts dps ps bt bs ft
push Account r (parts fh dxs dts dps ps bt bs ft) = parts fh dxs (r ∷ dts) dps ps bt bs ft
push Procurement r (parts fh dxs dts dps ps bt bs ft) = parts fh dxs dts (r ∷ dps) ps bt bs ft
push BatchTrailer r (parts fh dxs dts dps ps bt bs ft) = parts fh dxs dts dps ps r bs ft
push FileTrailer r (parts fh dxs dts dps ps bt bs ft) = parts fh dxs dts dps ps bt bs r
push Unknown r t = t

-- the records, read from the right, give this
data Reads : List Record → Read → Type 0 where
  none : Reads [] (parts [] [] [] [] [] [] [] [])
  more : (c : Code) {r : Record} {rs : List Record} {t : Read} → Coded (code_bytes c) r → Reads rs t → Reads (r ∷ rs) (push c r t)

one_reading : {rs : List Record} {t u : Read} → Reads rs t → Reads rs u → t ≡ u
one_reading none none = refl
one_reading (more c {r} k h) (more d m i) = rw (sym (of_bytes c r k) ∙ of_bytes d r m, one_reading h i)

-- a payment's DX, or its DT, or its DP: records of one code, each put on one list
read_run : (c : Code) (id : List ℕ) (into : List Record → Read) → ((x : Record) (xs : List Record) → push c x (into xs) ≡ into (x ∷ xs))
    → (xs : List Record) {rs : List Record} → All (Own (code_bytes c) id) xs → Reads rs (into []) → Reads (xs ++ rs) (into xs)
read_run c id into law [] os h = h
read_run c id into law (x ∷ xs) os h = rw (← law x xs) (more c os.0.0 (read_run c id into law xs os.1 h))

read_payments : (l : Letter) {n : ℕ} → n ≡ letter_byte l → {bt ft : Record} {bs : List Batch} {rs : List Record} (ps : List Payment) → All (LegalPayment n) ps
    → Reads rs (parts [] [] [] [] [] bt bs ft) → Reads (payments_onto ps rs) (parts [] [] [] [] ps bt bs ft)
unfolding code_bytes
read_payments l e [] gs h = h
read_payments l e {bt} {ft} {bs} (p ∷ ps) gs h =
    let g = gs.0 in
    let id = held p.detail payment_id in
    more (Detail l) (g.detail ∙ ap detail_code e)
    (read_run Party id (λ dxs. parts [] dxs p.accounts p.procurements ps bt bs ft) (λ x xs. refl) p.parties g.parties
    (read_run Account id (λ dts. parts [] [] dts p.procurements ps bt bs ft) (λ x xs. refl) p.accounts g.accounts
    (read_run Procurement id (λ dps. parts [] [] [] dps ps bt bs ft) (λ x xs. refl) p.procurements g.procurements
    (read_payments l e ps gs.1 h))))

read_batches : {ft : Record} {rs : List Record} (bs : List Batch) → All LegalBatch bs
    → Reads rs (parts [] [] [] [] [] [] [] ft) → Reads (batches_onto bs rs) (parts [] [] [] [] [] [] bs ft)
unfolding code_bytes
read_batches [] gs h = h
read_batches (b ∷ bs) gs h =
    let g = gs.0 in
    let l = lettered g.letter g.listed in
    more (code.Batch l.0) (g.header ∙ ap batch_code l.1)
    (read_payments l.0 l.1 b.payments g.payments (more BatchTrailer g.trailer (read_batches bs gs.1 h)))

read_division : {rs : List Record} {d : Division} → DivisionOf rs d → Reads rs (parts d.header [] [] [] [] [] d.batches d.trailer)
unfolding code_bytes
read_division {d} p =
    let g = p.legal in
    rw (← p.whole) (more FileHeader g.header (read_batches d.batches g.batches (more FileTrailer g.trailer none)))

-- where a division exists there is one only
pub one_division : (rs : List Record) (d e : Division) → DivisionOf rs d → DivisionOf rs e → d ≡ e
one_division rs d e p q = ap division (one_reading (read_division p) (read_division q))
