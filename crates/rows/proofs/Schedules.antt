-- The schedule numbers among a file's records are those of its batches: no record but a batch's header has one.
-- Assumes nothing.
use mathlib.Core.Path.{◌≡◌, refl, ap, ◌∙◌}
use mathlib.Core.Bool.{true, false}
use mathlib.Core.List.{List, [], ◌∷◌, ◌++◌, map, append-nil}
use Prim.Native.Nat.{ℕ}
use Rattle.record.specs.declared.codes.Letter.{Letter}
use Rattle.record.specs.declared.codes.Code.{Code}
use Rattle.record.specs.declared.codes.Code.TheVariants.{FileHeader, Detail, Party, Account, Procurement, BatchTrailer, FileTrailer}
use Rattle.record.specs.declared.codes.Code.TheVariants as code
use Rattle.record.specs.Choice.{choose}
use Rattle.record.specs.Fields.{payment_id}
use Rattle.record.specs.Value.{held}
use Rattle.record.specs.Codes.{letter_byte, code_bytes, is_header}
use Rattle.nesting.specs.Division.{Record, All, FH, FT, batch_code, detail_code, Coded, Own, Payment, Batch, payments_onto, batches_onto, LegalPayment, LegalBatch, batch_lines}
use Rattle.nesting.proofs.Coding.{of_bytes, lettered}
use Rattle.repeats.specs.declared.Sort.TheVariants.{Batches}
use Rattle.repeats.specs.Repeats.{numbering, is_of, numbers}
use Rattle.repeats.proofs.Ranges.{numbers_append}
use Rattle.rows.specs.Report.{schedule_of}

-- a record of another code has none
other : (c : Code) → is_header c ≡ false → (r : Record) (rs : List Record) → Coded (code_bytes c) r → numbers Batches (r ∷ rs) ≡ numbers Batches rs
unfolding numbers is_of choose
other c e r rs h = rw (of_bytes c r h, e)

others : (c : Code) → is_header c ≡ false → (id : List ℕ) (xs rs : List Record) → All (Own (code_bytes c) id) xs → numbers Batches (xs ++ rs) ≡ numbers Batches rs
others c e id [] rs hs = refl
others c e id (x ∷ xs) rs hs = other c e x (xs ++ rs) hs.0.0 ∙ others c e id xs rs hs.1

of_payments : (l : Letter) {n : ℕ} → n ≡ letter_byte l → (ps : List Payment) (rs : List Record) → All (LegalPayment n) ps → numbers Batches (payments_onto ps rs) ≡ numbers Batches rs
unfolding code_bytes is_header
of_payments l e [] rs gs = refl
of_payments l e (p ∷ ps) rs gs =
    let g = gs.0 in
    let id = held p.detail payment_id in
    other (Detail l) refl p.detail _ (g.detail ∙ ap detail_code e)
    ∙ others Party refl id p.parties _ g.parties
    ∙ others Account refl id p.accounts _ g.accounts
    ∙ others Procurement refl id p.procurements _ g.procurements
    ∙ of_payments l e ps rs gs.1

-- a batch's header has one
pub is_header_holds : (b : Batch) → LegalBatch b → is_of Batches b.header ≡ true
unfolding is_of is_header code_bytes
is_header_holds b g =
    let l = lettered g.letter g.listed in
    rw (of_bytes (code.Batch l.0) b.header (g.header ∙ ap batch_code l.1))

of_header : (b : Batch) → LegalBatch b → (rs : List Record) → numbers Batches (b.header ∷ rs) ≡ schedule_of b ∷ numbers Batches rs
unfolding numbers numbering choose
of_header b g rs = rw (is_header_holds b g)

of_batches : (bs : List Batch) (rs : List Record) → All LegalBatch bs → numbers Batches (batches_onto bs rs) ≡ map schedule_of bs ++ numbers Batches rs
unfolding code_bytes is_header
of_batches [] rs gs = refl
of_batches (b ∷ bs) rs gs =
    let g = gs.0 in
    let l = lettered g.letter g.listed in
    of_header b g _
    ∙ ap (λ (ns : List (List ℕ)). schedule_of b ∷ ns)
    (of_payments l.0 l.1 b.payments _ g.payments ∙ other BatchTrailer refl b.trailer _ g.trailer ∙ of_batches bs rs gs.1)

-- those of FH and the batches after it
pub schedules : (fh : Record) → Coded FH fh → (bs : List Batch) → All LegalBatch bs → numbers Batches (fh ∷ batches_onto bs []) ≡ map schedule_of bs
unfolding code_bytes is_header numbers
schedules fh h bs gs = other FileHeader refl fh (batches_onto bs []) h ∙ of_batches bs [] gs ∙ append-nil (map schedule_of bs)

-- those of a batch and of what follows it up to FT
pub schedules_from : (b : Batch) → LegalBatch b → (later : List Batch) → All LegalBatch later → (ft : Record) → Coded FT ft
    → numbers Batches (batch_lines b ++ batches_onto later (ft ∷ [])) ≡ map schedule_of (b ∷ later)
unfolding code_bytes is_header numbers
schedules_from b g later gs ft h =
    numbers_append Batches (batch_lines b) (batches_onto later (ft ∷ []))
    ∙ (λ i. of_batches (b ∷ []) [] (g, tt) i ++ of_batches later (ft ∷ []) gs i)
    ∙ ap (λ (ns : List (List ℕ)). schedule_of b ∷ (map schedule_of later ++ ns)) (other FileTrailer refl ft [] h)
    ∙ ap (◌∷◌ (schedule_of b)) (append-nil (map schedule_of later))
