-- Where a legal batch ends: at its first BT, whatever follows.
-- Assumes nothing.
use mathlib.Core.Path.{◌≡◌, refl, sym, ap, ◌∙◌}
use mathlib.Core.Bool.{Bool, true, false, true≢false}
use mathlib.Core.List.{List, [], ◌∷◌, ◌++◌, append_assoc}
use Prim.Native.Nat.{ℕ, ◌+◌, ◌/◌, ◌≤◌}
use native.Mathlib.Omega.{arith}
use lib.ListN.{length, length-append}
use Rattle.record.specs.declared.codes.Code.{Code}
use Rattle.record.specs.declared.codes.Code.TheVariants as code
use Rattle.record.specs.Choice.{choose}
use Rattle.record.specs.Codes.{code_of, code_bytes, is_trailer}
use Rattle.nesting.specs.Division.{Record, All, BT, Coded, Batch, payments_onto, LegalBatch, batch_lines}
use Rattle.nesting.proofs.Coding.{of_bytes, to_bytes}
use Rattle.nesting.proofs.Cuts.{cut_length}
use Rattle.nesting.proofs.Parts.{payments_onto_holds, NoTrailer, no_trailer}
use Rattle.batch.specs.Batch.{BatchOf, Judgeable}
use Rattle.batch.specs.Walk.{to_trailer}

-- a BT by its code, and by its bytes
only_trailer : (c : Code) → is_trailer c ≡ true → c ≡ code.BatchTrailer
unfolding is_trailer
only_trailer code.FileHeader e = absurd (true≢false (sym e))
only_trailer (code.Batch l) e = absurd (true≢false (sym e))
only_trailer (code.Detail l) e = absurd (true≢false (sym e))
only_trailer code.Party e = absurd (true≢false (sym e))
only_trailer code.Account e = absurd (true≢false (sym e))
only_trailer code.Procurement e = absurd (true≢false (sym e))
only_trailer code.BatchTrailer e = refl
only_trailer code.FileTrailer e = absurd (true≢false (sym e))
only_trailer code.Unknown e = absurd (true≢false (sym e))

other_code : (r : Record) → NoTrailer r → is_trailer (code_of r) ≡ false
unfolding code_bytes
other_code r n = go (is_trailer (code_of r)) refl
  where
    go : (t : Bool) → is_trailer (code_of r) ≡ t → is_trailer (code_of r) ≡ false
    go true e = absurd (n (to_bytes code.BatchTrailer r refl (only_trailer (code_of r) e)))
    go false e = e

-- the first BT ends the walk
up_to : (rs : List Record) (t : Record) (more : List Record) → All NoTrailer rs → Coded BT t → to_trailer (rs ++ t ∷ more) ≡ rs ++ t ∷ []
unfolding to_trailer choose is_trailer code_bytes
up_to [] t more ns h = rw (of_bytes code.BatchTrailer t h)
up_to (r ∷ rs) t more ns h = rw (other_code r ns.0, up_to rs t more ns.1 h)

pub to_trailer_holds : (b : Batch) → LegalBatch b → (more : List Record) → to_trailer (payments_onto b.payments (b.trailer ∷ []) ++ more) ≡ payments_onto b.payments (b.trailer ∷ [])
to_trailer_holds b g more =
    rw (payments_onto_holds b.payments [] (b.trailer ∷ []), append_assoc (payments_onto b.payments []) (b.trailer ∷ []) more)
    (up_to (payments_onto b.payments []) b.trailer more (no_trailer b g).1 g.trailer)

-- the records of a batch, and those that follow
pub records_are : {rest : List ℕ} {n : ℕ} {b : Batch} (h : BatchOf n rest b) → length (batch_lines b) + length h.more ≡ length rest / 850
records_are {rest} {n} {b} h = sym (length-append (batch_lines b) h.more) ∙ ap length h.whole ∙ cut_length n (length rest / 850) rest

-- a batch has a first record
pub first_record : {rest : List ℕ} {n : ℕ} → Judgeable n rest → 850 ≤ length rest
first_record j = omega (arith, records_are j.batch.1)
