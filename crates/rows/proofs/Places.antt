-- Where a batch stands in the bytes of its file: its part, its header, the schedule numbers before it.
-- Assumes nothing.
use mathlib.Core.Path.{◌≡◌, refl, sym, ap, ◌∙◌}
use mathlib.Core.List.{List, [], ◌∷◌, ◌++◌, map, map-append, tail}
use Prim.Native.Nat.{ℕ, zero, suc, ◌+◌, ◌-◌, ◌*◌, ◌/◌}
use native.Mathlib.Omega.{arith}
use lib.ListN.{length, take, drop, get_or, length-take, length-drop, length-append}
use lib.Seq.{length-take-le, take_all, take_at, drop_at, take-take}
use Rattle.record.specs.Choice.{choose}
use Rattle.record.specs.Fields.{schedule_number}
use Rattle.record.specs.Value.{seen, held}
use Rattle.nesting.specs.Division.{Record, All, Batch, batches_onto, LegalBatch, batch_lines, records_before}
use Rattle.nesting.specs.Records.{line_of, cut, record_at, records, Cuttable}
use Rattle.nesting.proofs.Cuts.{cut_length, cut_part, cut_snoc}
use Rattle.nesting.proofs.Parts.{batch_between, batch_part}
use Rattle.repeats.specs.declared.Sort.TheVariants.{Batches}
use Rattle.repeats.specs.Repeats.{numbering, numbers}
use Rattle.repeats.specs.Schedules.{numbers_before, numbers_from, number_at, Batched}
use Rattle.repeats.proofs.Looks.{numbers_snoc}
use Rattle.repeats.proofs.Schedules.{from_next}
use Rattle.batch.specs.Batch.{BatchOf, Judgeable}
use Rattle.rows.specs.Report.{schedule_of}
use Rattle.rows.specs.Standing.{Stands}
use Rattle.rows.proofs.Schedules.{is_header_holds, schedules, schedules_from}

-- the rest of the bytes from a place on, as the code takes them
abbrev pub rest_of : List ℕ → ℕ → List ℕ
rest_of f place = take (length f - place * 850) (drop (place * 850) f)

-- the members before one, and it with those behind it
all_parts : {A : Type 0} (P : A → Type 0) (xs : List A) (y : A) (ys : List A) → All P (xs ++ y ∷ ys) → All P xs × All P (y ∷ ys)
all_parts P [] y ys h = (tt, h)
all_parts P (x ∷ xs) y ys h = let r = all_parts P xs y ys h.1 in ((h.0, r.0), r.1)

-- the first records, cut from the bytes
cut_first : (n j m : ℕ) (xs : List ℕ) → take j (cut n (j + m) xs) ≡ cut n j xs
unfolding cut
cut_first n zero m xs = refl
cut_first n (suc j) m xs =
    let e : suc j + m ≡ suc (j + m) = omega arith in
    rw e (ap (◌∷◌ (seen (line_of n) (take 850 xs))) (cut_first (n + 1) j m (drop 850 xs)))

module _ {f : List ℕ} (w : Cuttable f) {place : ℕ} {earlier : List Batch} {b : Batch} (s : Stands f place earlier b) where
  -- the records before the batch, and those behind it
  abbrev front : List Record
  front = s.division.header ∷ batches_onto earlier []

  abbrev pub rest : List Record
  rest = batches_onto s.later (s.division.trailer ∷ [])

  -- it is legal, and so are the earlier ones and the later ones
  all_legal : All LegalBatch earlier × All LegalBatch (b ∷ s.later)
  all_legal = all_parts LegalBatch earlier b s.later (rw (← s.batches) s.divided.legal.batches)

  legal : LegalBatch b
  legal = all_legal.1.0

  -- how the records follow each other, and how many there are
  between : front ++ (batch_lines b ++ rest) ≡ records f
  between = batch_between (records f) s.division s.divided earlier b s.later s.batches

  front_length : length front ≡ place
  front_length = omega (arith, s.before)

  pub counted : place + length (batch_lines b) + length rest ≡ length f / 850
  unfolding records
  counted =
      let l : length (records f) ≡ length f / 850 = cut_length 1 (length f / 850) f in
      let m : length (records f) ≡ length front + (length (batch_lines b) + length rest) = rw (← between) (simp length-append) in
      omega (arith, l, m, front_length)

  -- the records from the batch on, cut from the rest of the bytes
  onward : cut (place + 1) (length (rest_of f place) / 850) (rest_of f place) ≡ batch_lines b ++ rest
  unfolding records
  onward =
      let k = length f / 850 - place in
      let e : length f - place * 850 ≡ k * 850 = omega (arith, w.whole, counted) in
      let l : length (take (k * 850) (drop (place * 850) f)) ≡ k * 850 = length-take-le (k * 850) (drop (place * 850) f) (rw length-drop (omega (arith, e))) in
      let q : length (take (k * 850) (drop (place * 850) f)) / 850 ≡ k = omega (arith, l) in
      let p : place + 1 ≡ 1 + place = omega arith in
      let d : drop place (records f) ≡ batch_lines b ++ rest = rw (← between) (drop_at front (batch_lines b ++ rest) place front_length) in
      rw (e, q, p)
      (sym (cut_part 1 place k (length f / 850) f (omega (arith, counted)) (omega arith))
      ∙ ap (take k) d ∙ take_all k (batch_lines b ++ rest) (rw length-append (omega (arith, counted))))

  -- its records, cut from their own part of the bytes
  part : cut (place + 1) (length (batch_lines b)) (take (length (batch_lines b) * 850) (drop (place * 850) f)) ≡ batch_lines b
  part =
      let p : place + 1 ≡ 1 + records_before earlier = omega (arith, s.before) in
      rw (p, s.before) (batch_part f w s.division s.divided earlier b s.later s.batches)

  -- the first is its header
  header_is : record_at 1 place f ≡ b.header
  unfolding record_at cut
  header_is =
      rw (← take-take 850 (length (batch_lines b) * 850) (drop (place * 850) f) (omega arith)) (ap (λ (rs : List Record). get_or rs 0 []) part)

  -- the schedule numbers before it
  schedules_before : numbers Batches (cut 1 place f) ≡ map schedule_of earlier
  unfolding records
  schedules_before =
      let m = length f / 850 - place in
      let e : length f / 850 ≡ place + m = omega (arith, counted) in
      let k : cut 1 place f ≡ front =
      sym (cut_first 1 place m f) ∙ ap (λ (n : ℕ). take place (cut 1 n f)) (sym e) ∙ ap (take place) (sym between)
      ∙ take_at front (batch_lines b ++ rest) place front_length in
      ap (numbers Batches) k ∙ schedules s.division.header s.divided.legal.header earlier all_legal.0

  -- the schedule numbers after its header: no other record of it has one
  schedules_after : numbers Batches (cut 1 (place + 1) f) ≡ map schedule_of (earlier ++ b ∷ [])
  unfolding numbering choose
  schedules_after =
      rw (cut_snoc 1 place f, numbers_snoc Batches (cut 1 place f) (record_at 1 place f), header_is, is_header_holds b legal, schedules_before)
      (sym (map-append schedule_of earlier (b ∷ [])))

  -- its own number, those before it, and those from it on
  pub number_is : number_at f place ≡ schedule_of b
  unfolding numbering
  number_is = ap (λ (r : Record). held r schedule_number) header_is

  pub before_is : numbers_before f place ≡ map schedule_of earlier
  unfolding numbers_before
  before_is = schedules_before

  pub before_after : numbers_before f (place + 1) ≡ map schedule_of (earlier ++ b ∷ [])
  unfolding numbers_before
  before_after = schedules_after

  pub from_here : numbers_from f place ≡ map schedule_of (b ∷ s.later)
  unfolding numbers_from
  from_here =
      let p : 1 + place ≡ place + 1 = omega arith in
      let e : length f - place * 850 ≡ length (drop (place * 850) f) = rw length-drop in
      let a : rest_of f place ≡ drop (place * 850) f = rw e (take_all (length (drop (place * 850) f)) (drop (place * 850) f) (omega arith)) in
      let n : length (rest_of f place) / 850 ≡ length f / 850 - place = rw a (rw length-drop (omega (arith, w.whole, counted))) in
      (λ i. numbers Batches (cut (p i) (sym n i) (sym a i))) ∙ ap (numbers Batches) onward
      ∙ schedules_from b legal s.later all_legal.1.1 s.division.trailer s.divided.legal.trailer

  -- its header stands there
  pub is_batched : (flags : List ℕ) → length flags ≡ length (b ∷ s.later) → Batched f place flags
  is_batched flags l =
      record {
        within = omega (arith, counted);
        few = w.few;
        header = rw header_is (is_header_holds b legal);
        size = rw from_here (l ∙ sym (length-map (b ∷ s.later)));
      }
    where
      length-map : (bs : List Batch) → length (map schedule_of bs) ≡ length bs
      length-map [] = refl
      length-map (c ∷ bs) = ap suc (length-map bs)

  -- the numbers behind its own
  pub from_after : (flags : List ℕ) → Batched f place flags → numbers_from f (place + 1) ≡ map schedule_of s.later
  from_after flags d = ap tail (sym (from_next f place d) ∙ from_here)

  -- the rest of the file begins with it
  pub batch_of : BatchOf (place + 1) (rest_of f place) b
  batch_of = record { legal = legal; more = rest; whole = sym onward }

  pub judgeable : Judgeable (place + 1) (rest_of f place)
  judgeable =
      let l : length (rest_of f place) ≡ length f - place * 850 = simp (length-take, length-drop) (omega arith) in
      record {
        numbered = omega arith;
        whole = omega (arith, l, w.whole);
        few = omega (arith, l, counted, w.few, w.whole);
        batch = (b, batch_of);
      }
