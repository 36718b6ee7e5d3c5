-- FH and FT: the first and the last record of a file that has a division.
-- Assumes nothing.
use mathlib.Core.Path.{◌≡◌, refl, sym, ◌∙◌, ap}
use mathlib.Core.List.{List, [], ◌∷◌, ◌++◌, append_assoc}
use Prim.Native.Nat.{ℕ, ◌+◌, ◌-◌, ◌*◌, ◌/◌, ◌<◌, ◌≤◌}
use native.Mathlib.Omega.{arith}
use lib.ListN.{length, take, drop, get_or, length-append}
use lib.Seq.{drop_at, take-take}
use Rattle.record.specs.Value.{seen}
use Rattle.nesting.specs.Division.{Record, Payment, Batch, Division, DivisionOf, payments_onto, batches_onto, batch_lines}
use Rattle.nesting.specs.Records.{line_of, cut, record_at, records, Cuttable}
use Rattle.nesting.proofs.Cuts.{cut_length, cut_part}
use Rattle.nesting.proofs.Parts.{batch_between}

-- the records that follow are among them, and each batch has one of its own
payments_long : (ps : List Payment) (rest : List Record) → length rest ≤ length (payments_onto ps rest)
payments_long [] rest = omega arith
payments_long (p ∷ ps) rest = simp length-append (omega (arith, payments_long ps rest))

batches_long : (bs : List Batch) (rest : List Record) → length bs + length rest ≤ length (batches_onto bs rest)
batches_long [] rest = omega arith
batches_long (b ∷ bs) rest = omega (arith, payments_long b.payments (b.trailer ∷ batches_onto bs rest), batches_long bs rest)

-- the batches before the last, and the last
record Ending (bs : List Batch) : Type 0 where
  earlier : List Batch
  last : Batch
  parts : bs ≡ earlier ++ last ∷ []

ending : (b : Batch) (bs : List Batch) → Ending (b ∷ bs)
ending b [] = record { earlier = []; last = b; parts = refl }
ending b (c ∷ bs) = let e = ending c bs in record { earlier = b ∷ e.earlier; last = e.last; parts = ap (◌∷◌ b) e.parts }

some_ending : (bs : List Batch) → 1 ≤ length bs → Ending bs
some_ending [] h = absurd (omega arith)
some_ending (b ∷ bs) h = ending b bs

-- as many records as 850 bytes go into the file
pub count_of : (file : List ℕ) → length (records file) ≡ length file / 850
unfolding records
count_of file = cut_length 1 (length file / 850) file

module _ (file : List ℕ) (w : Cuttable file) (d : Division) (h : DivisionOf (records file) d) where
  pub batches_few : 2 + length d.batches ≤ length file / 850
  batches_few = omega (arith, count_of file, ap length h.whole, batches_long d.batches (d.trailer ∷ []))

  -- a record is cut from its own part of the file
  record_at_holds : (i : ℕ) → i < length file / 850 → take 1 (drop i (records file)) ≡ record_at 1 i file ∷ []
  unfolding records cut record_at
  record_at_holds i l =
      let t : take 850 (take (1 * 850) (drop (i * 850) file)) ≡ take 850 (drop (i * 850) file) = take-take 850 (1 * 850) (drop (i * 850) file) (omega arith) in
      cut_part 1 i 1 (length file / 850) file (omega (arith, l)) (omega arith) ∙ rw t

  pub header_first : seen (line_of 1) (take 850 file) ≡ d.header
  unfolding record_at
  header_first =
      let e : take 1 (drop 0 (records file)) ≡ d.header ∷ [] = rw (← h.whole) in
      ap (λ (rs : List Record). get_or rs 0 []) (sym (record_at_holds 0 (omega (arith, batches_few))) ∙ e)

  -- the records before FT
  abbrev before : List Record
  before = let e = some_ending d.batches h.legal.some_batches in (d.header ∷ batches_onto e.earlier []) ++ batch_lines e.last

  before_trailer : before ++ (d.trailer ∷ []) ≡ records file
  before_trailer =
      let e = some_ending d.batches h.legal.some_batches in
      append_assoc (d.header ∷ batches_onto e.earlier []) (batch_lines e.last) (d.trailer ∷ [])
      ∙ batch_between (records file) d h e.earlier e.last [] e.parts

  pub trailer_last : seen (line_of (length file / 850)) (take 850 (drop (length file - 850) file)) ≡ d.trailer
  unfolding record_at
  trailer_last =
      let n = length file / 850 in
      let l : length before ≡ n - 1 = omega (arith, count_of file, rw length-append at (ap length before_trailer)) in
      let t : drop (n - 1) (records file) ≡ d.trailer ∷ [] = rw (← before_trailer) (drop_at before (d.trailer ∷ []) (n - 1) l) in
      let s : (n - 1) * 850 ≡ length file - 850 = omega (arith, w.whole) in
      ap (λ (rs : List Record). get_or rs 0 []) (sym (rw s at (record_at_holds (n - 1) (omega (arith, batches_few)))) ∙ ap (take 1) t)
