-- A file with one batch: the batch's records are the part between FH and FT.
-- Assumes nothing.
use mathlib.Core.Path.{◌≡◌, refl, sym, ap, ◌∙◌}
use mathlib.Core.Bool.{false}
use mathlib.Core.List.{List, [], ◌∷◌, append-nil}
use Prim.Native.Nat.{ℕ, ◌+◌, ◌*◌, ◌/◌, ◌-◌, ◌≤◌}
use native.Mathlib.Omega.{arith}
use lib.ListN.{length, take, drop, length-drop, length-append}
use lib.Seq.{length-take-le}
use Rattle.page.specs.CodePage.{shown}
use Rattle.page.proofs.Shown.{shown_plain}
use Rattle.std.specs.Prelude.{Result, Ok}
use Rattle.nesting.specs.Division.{All, Batch, Division, LegalBatch, DivisionOf, batch_lines}
use Rattle.nesting.specs.Records.{records, Cuttable}
use Rattle.nesting.proofs.Cuts.{cut_length}
use Rattle.nesting.proofs.Parts.{batch_between, batch_part}
use Rattle.batch.specs.Batch.{Judgeable}
use Rattle.survey.specs.declared.Survey.{Survey}
use Rattle.survey.specs.Survey.{divided, Surveyed}
use Rattle.survey.specs.Survey.Surveyed.{legal, refused}

-- the bytes between FH and FT
abbrev pub between : List ℕ → List ℕ
between f = take (length f - 850 - 850) (drop 850 f)

-- what is known of such a file
record Lone (f : List ℕ) : Type 0 where
  room : 1700 ≤ length f
  judgeable : Judgeable 2 (between f)

-- the records of the file: FH, those of the batch, FT
sized : (f : List ℕ) (d : Division) → DivisionOf (records f) d → (b : Batch) → d.batches ≡ b ∷ [] → length f / 850 ≡ length (batch_lines b) + 2
unfolding records
sized f d h b e =
    let l : length (records f) ≡ length f / 850 = cut_length 1 (length f / 850) f in
    let s : length (records f) ≡ length (batch_lines b) + 2 = rw (← batch_between (records f) d h [] b [] e) (simp length-append (omega arith)) in
    omega (arith, l, s)

part : (f : List ℕ) → Cuttable f → (d : Division) → DivisionOf (records f) d → (b : Batch) → d.batches ≡ b ∷ [] → LegalBatch b → Lone f
part f w d h b e g =
    let n = length (batch_lines b) in
    let s : length f ≡ (n + 2) * 850 = omega (arith, sized f d h b e, w.whole) in
    let k : length f - 850 - 850 ≡ n * 850 = omega (arith, s) in
    let l : length (between f) ≡ n * 850 = rw k (length-take-le (n * 850) (drop 850 f) (rw length-drop (omega (arith, s)))) in
    let q : length (between f) / 850 ≡ n = omega (arith, l) in
    record {
      room = omega (arith, s);
      judgeable =
          record {
            numbered = omega arith;
            whole = omega (arith, l);
            few = omega (arith, l, s, w.few);
            batch = (b, record { legal = g; more = []; whole = append-nil (batch_lines b) ∙ sym (rw (q, k) (batch_part f w d h [] b [] e)) });
          };
    }

only : (f : List ℕ) → Cuttable f → (d : Division) → DivisionOf (records f) d → (bs : List Batch) → d.batches ≡ bs → length bs ≡ 1 → All LegalBatch bs → Lone f
only f w d h [] e l g = absurd (omega arith)
only f w d h (b ∷ []) e l g = part f w d h b e g.0
only f w d h (b ∷ c ∷ bs) e l g = absurd (omega arith)

lone : (f : List ℕ) (r : Result Survey ℕ) (s : Survey) → Cuttable f → Surveyed f r → r ≡ Ok s → s.counts.batches ≡ 1 → Lone f
lone f r s w (legal d h) e l =
    let q : divided (records f) d ≡ s = cc in
    only f w d h d.batches refl (ap (λ (x : Survey). x.counts.batches) q ∙ l) h.legal.batches
lone f r s w (refused k t) e l = absurd (cc)

-- in the words of the bounds that the part's ends ask for
module _ (f : List ℕ) (r : Result Survey ℕ) (s : Survey) (w : Cuttable f) (t : Surveyed (shown false f) r) (e : r ≡ Ok s) (l : s.counts.batches ≡ 1) where
  here : Lone f
  here = lone f r s w (rw (shown_plain f) at t) e l

  pub lone_start : 850 ≤ length f
  lone_start = omega (arith, here.room)

  pub lone_end : 850 ≤ length f - 850
  lone_end = omega (arith, here.room)

  pub lone_judgeable : Judgeable 2 (shown false (between f))
  lone_judgeable = rw (shown_plain (between f)) here.judgeable
