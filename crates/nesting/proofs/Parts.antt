-- Where the records of a batch stand in the file, and how they follow each other.
-- Assumes nothing.
use mathlib.Core.Path.{◌≡◌, refl, sym, ◌∙◌, ap}
use mathlib.Core.List.{List, [], ◌∷◌, ◌++◌, append_assoc}
use Prim.Native.Nat.{ℕ, ◌+◌, ◌*◌, ◌/◌}
use native.Mathlib.Omega.{arith}
use lib.ListN.{length, take, drop, get_or, length-append}
use lib.Seq.{take_at, drop_at}
use Rattle.record.specs.declared.codes.Code.TheVariants.{BatchTrailer}
use Rattle.record.specs.declared.codes.Code.TheVariants as code
use Rattle.record.specs.Codes.{code_bytes}
use Rattle.nesting.specs.Division.{Record, All, BT, Coded, Own, batch_code, Payment, Batch, Division, payments_onto, batch_onto, batches_onto, LegalPayment, LegalBatch, DivisionOf, batch_lines, records_before}
use Rattle.nesting.specs.Records.{cut, records, Cuttable}
use Rattle.nesting.proofs.Coding.{of_bytes, lettered}
use Rattle.nesting.proofs.Cuts.{cut_length, cut_part}
use Rattle.nesting.proofs.Wholes.{all_append}

-- what follows can be put behind
pub payments_onto_holds : (ps : List Payment) (xs ys : List Record) → payments_onto ps (xs ++ ys) ≡ payments_onto ps xs ++ ys
payments_onto_holds [] xs ys = refl
payments_onto_holds (p ∷ ps) xs ys = rw (payments_onto_holds ps xs ys) (simp append_assoc)

batch_onto_holds : (b : Batch) (xs ys : List Record) → batch_onto b (xs ++ ys) ≡ batch_onto b xs ++ ys
batch_onto_holds b xs ys = ap (◌∷◌ b.header) (payments_onto_holds b.payments (b.trailer ∷ xs) ys)

batches_onto_holds : (bs : List Batch) (xs ys : List Record) → batches_onto bs (xs ++ ys) ≡ batches_onto bs xs ++ ys
batches_onto_holds [] xs ys = refl
batches_onto_holds (b ∷ bs) xs ys = rw (batches_onto_holds bs xs ys) (batch_onto_holds b (batches_onto bs xs) ys)

batches_split : (earlier : List Batch) (b : Batch) (later : List Batch) (rest : List Record)
    → batches_onto (earlier ++ b ∷ later) rest ≡ batches_onto earlier [] ++ (batch_lines b ++ batches_onto later rest)
batches_split [] b later rest = batch_onto_holds b [] (batches_onto later rest)
batches_split (x ∷ earlier) b later rest = rw (batches_split earlier b later rest) (batch_onto_holds x (batches_onto earlier []) (batch_lines b ++ batches_onto later rest))

-- where a batch stands in a division
module _ (rs : List Record) (d : Division) (h : DivisionOf rs d) (earlier : List Batch) (b : Batch) (later : List Batch) (e : d.batches ≡ earlier ++ b ∷ later) where
  -- before it FH and the records of the earlier batches, behind it those of the later ones and FT
  pub batch_between : (d.header ∷ batches_onto earlier []) ++ (batch_lines b ++ batches_onto later (d.trailer ∷ [])) ≡ rs
  batch_between = rw (← batches_split earlier b later (d.trailer ∷ []), ← e) h.whole

  pub batch_place : take (length (batch_lines b)) (drop (records_before earlier) rs) ≡ batch_lines b
  batch_place =
      let n : records_before earlier ≡ length (d.header ∷ batches_onto earlier []) = omega arith in
      let rest = batch_lines b ++ batches_onto later (d.trailer ∷ []) in
      rw (n, ← batch_between, drop_at (d.header ∷ batches_onto earlier []) rest (length (d.header ∷ batches_onto earlier [])) refl)
      (take_at (batch_lines b) (batches_onto later (d.trailer ∷ [])) (length (batch_lines b)) refl)

-- so its records are cut from their own part of the file
pub batch_part : (f : List ℕ) → Cuttable f → (d : Division) → DivisionOf (records f) d → (earlier : List Batch) (b : Batch) (later : List Batch) → d.batches ≡ earlier ++ b ∷ later
    → cut (1 + records_before earlier) (length (batch_lines b)) (take (length (batch_lines b) * 850) (drop (records_before earlier * 850) f)) ≡ batch_lines b
unfolding records
batch_part f w d h earlier b later e =
    let l : length (records f) ≡ length f / 850 = cut_length 1 (length f / 850) f in
    let s : length (records f) ≡ 1 + length (batches_onto earlier []) + (length (batch_lines b) + length (batches_onto later (d.trailer ∷ []))) =
    rw (← batch_between (records f) d h earlier b later e) (simp length-append (omega arith)) in
    sym (cut_part 1 (records_before earlier) (length (batch_lines b)) (length f / 850) f (omega arith) (omega arith))
    ∙ batch_place (records f) d h earlier b later e

-- no BT
abbrev pub NoTrailer : Record → Type 0
NoTrailer r = Coded BT r → ⊥

detail_no : (x : ℕ) (r : Record) → Coded (0xC4 ∷ x ∷ []) r → NoTrailer r
detail_no x r h e = let n : ◌≡◌ {A = ℕ} 0xC4 0xC2 = ap (λ (l : List ℕ). get_or l 0 0) (sym h ∙ e) in omega arith

own_no : (x : ℕ) (id : List ℕ) (rs : List Record) → All (Own (0xC4 ∷ x ∷ []) id) rs → All NoTrailer rs
own_no x id [] hs = tt
own_no x id (r ∷ rs) hs = (detail_no x r hs.0.0, own_no x id rs hs.1)

payments_no : (n : ℕ) (ps : List Payment) → All (LegalPayment n) ps → All NoTrailer (payments_onto ps [])
payments_no n [] hs = tt
payments_no n (p ∷ ps) hs =
    let g = hs.0 in (
      detail_no n p.detail g.detail,
      all_append NoTrailer p.parties _ (own_no _ _ p.parties g.parties)
          (all_append NoTrailer p.accounts _ (own_no _ _ p.accounts g.accounts)
          (all_append NoTrailer p.procurements _ (own_no _ _ p.procurements g.procurements) (payments_no n ps hs.1))),
    )

header_no : (b : Batch) → LegalBatch b → NoTrailer b.header
unfolding code_bytes
header_no b g e =
    let l = lettered g.letter g.listed in
    let h : code.Batch l.0 ≡ BatchTrailer = sym (of_bytes (code.Batch l.0) b.header (g.header ∙ ap batch_code l.1)) ∙ of_bytes BatchTrailer b.header e in
    let z : ◌≡◌ {A = ℕ} 0 1 = cc in
    omega arith

-- no record of a batch before its last is a BT
pub no_trailer : (b : Batch) → LegalBatch b → All NoTrailer (b.header ∷ payments_onto b.payments [])
no_trailer b g = (header_no b g, payments_no g.letter b.payments g.payments)
