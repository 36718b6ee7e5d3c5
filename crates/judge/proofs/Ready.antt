-- What an accepted verdict says of the report: the rows have room, and the entry may write them.
-- Assumes nothing.
use mathlib.Core.Path.{◌≡◌, refl, ap, ◌∙◌}
use mathlib.Core.Bool.{Bool, true, false}
use mathlib.Core.List.{List}
use Prim.Native.Nat.{ℕ, ◌+◌, ◌*◌, ◌%◌, ◌≤◌}
use native.Mathlib.Omega.{arith}
use lib.Dec.{eqb, ltb}
use lib.ListN.{length}
use borrow.Author.Tests.{eqb-true, eqb-false, ltb-true, ltb-false}
use Rattle.page.specs.CodePage.{shown, is_ascii}
use Rattle.page.proofs.Shown.{translated_is}
use Rattle.calendar.specs.declared.Day.{Day}
use Rattle.calendar.specs.Clock.{today_of}
use Rattle.book.specs.Book.{Contents, Lists, listed_at, Usable, placed}
use Rattle.book.proofs.Chains.{usable, listed_there}
use Rattle.nesting.specs.Division.{Division, DivisionOf}
use Rattle.nesting.specs.Records.{records, Cuttable}
use Rattle.report.specs.Rows.{room_for}
use Rattle.std.specs.Prelude.{Option, Result, Ok, Err}
use Rattle.verdict.specs.declared.Accepted.{Accepted}
use Rattle.verdict.specs.declared.Refusal.{Refusal}
use Rattle.verdict.specs.declared.reason.Reason.{Reason}
use Rattle.verdict.specs.Answer.{number_of, Applies, refusal, acceptance, Judgement}
use Rattle.verdict.specs.declared.reason.Reason.TheVariants.{Ragged, TooLong, ReportShort}
use Rattle.verdict.specs.Answer.Judgement.{refused, accepted}
use Rattle.verdict.proofs.Numbers.{some_number}
use Rattle.rows.specs.Report.{head_of, Writable, Written, reported, rows_of}
use Rattle.judge.specs.Judged.{Judged, Promised}

-- a refusal is never 0
pub not_zero : (k : Reason) (m : ℕ) → number_of k * 100000 + m ≡ 0 → ⊥
not_zero k m e = let h = some_number k in omega arith

module _ (file book today : List ℕ) where
  -- a file that is accepted is cut into whole records, and the report has room
  module _ (room : ℕ) (none : (j : Reason) → Applies file book today room j → ⊥) where
    cuttable : Cuttable file
    cuttable =
        record { whole = whole (eqb (length file % 850) 0) refl; few = few (ltb (65535 * 850) (length file)) refl }
      where
        whole : (t : Bool) → eqb (length file % 850) 0 ≡ t → length file % 850 ≡ 0
        whole true e = eqb-true _ _ e
        whole false e = absurd (none Ragged (eqb-false _ _ e))

        few : (t : Bool) → ltb (65535 * 850) (length file) ≡ t → length file ≤ 65535 * 850
        few true e = absurd (none TooLong (ltb-true _ _ e))
        few false e = ltb-false _ _ e

    enough : (c : Contents) → Lists book c → (d : Division) → DivisionOf (records file) d → room_for (length d.batches) ≤ room
    enough c l d h = go (ltb room (room_for (length d.batches))) refl
      where
        go : (t : Bool) → ltb room (room_for (length d.batches)) ≡ t → room_for (length d.batches) ≤ room
        go true e = absurd (none ReportShort (record { contents = c; lists = l; division = d; divided = h; holds = ltb-true _ _ e }))
        go false e = ltb-false _ _ e

  -- what the entry knows where the verdict is 0
  pub record Ready (report : List ℕ) (v : Accepted) : Type 0 where
    pub none : (j : Reason) → Applies file book today (length report) j → ⊥
    pub contents : Contents
    pub lists : Lists book contents
    pub division : Division
    pub divided : DivisionOf (records file) division
    pub is : v ≡ acceptance contents division

  pub ready : (report : List ℕ) (v : Accepted) → Judgement file book today (length report) (Ok v) → Ready report v
  ready report v j = go _ j refl
    where
      go : (r : Result Accepted Refusal) → Judgement file book today (length report) r → r ≡ Ok v → Ready report v
      go _ (refused k m r) e = cc
      go _ (accepted n c l d h) e = record { none = n; contents = c; lists = l; division = d; divided = h; is = cc }

  module _ (report : List ℕ) (v : Accepted) (r : Ready report v) where
    pub ready_usable : Usable book v.shelves
    unfolding acceptance placed
    ready_usable = rw r.is (usable book r.contents r.lists)

    pub ready_writable : Writable file v.counts.payments v.total v.counts.batches report
    unfolding acceptance
    ready_writable =
        rw r.is
        (record {
          cuttable = cuttable (length report) r.none;
          division = r.division;
          divided = r.divided;
          paid = refl;
          summed = refl;
          count = refl;
          room = enough (length report) r.none r.contents r.lists r.division r.divided;
        })

    -- the rows that were written are the promised ones
    ready_judged : (after : List ℕ) → Written (listed_at book v.shelves) (today_of today) file report after → Judged file book today report 0 after
    unfolding acceptance
    ready_judged after w =
        let there : listed_at book v.shelves ≡ r.contents = ap (λ (u : Accepted). listed_at book u.shelves) r.is ∙ listed_there book r.contents r.lists in
        let e = w r.division r.divided ∙ ap (λ (c : Contents). reported report (head_of r.division) (rows_of c (today_of today) r.division)) there in
        rw e (Judged.accepted r.none r.contents r.lists r.division r.divided)

  -- a refusal leaves the report as it was
  kept : (report : List ℕ) (v : Refusal) → Judgement file book today (length report) (Err v) → Judged file book today report (number_of v.reason * 100000 + v.record_number) report
  kept report v j = go _ j refl
    where
      go : (r : Result Accepted Refusal) → Judgement file book today (length report) r → r ≡ Err v → Judged file book today report (number_of v.reason * 100000 + v.record_number) report
      go _ (refused k m r) e =
          let q : refusal k m ≡ v = cc in
          rw (← q) (Judged.refused k m r)
      go _ (accepted n c l d h) e = cc

-- the same of the file that was sent, which is ASCII or not
module _ (sent book today : List ℕ) (ascii : Bool) (a : ascii ≡ is_ascii sent) (report : List ℕ) where
  pub ready_promised : (v : Accepted) → Ready (shown ascii sent) book today report v → (day : Option Day) → day ≡ today_of today → (after : List ℕ) → Written (listed_at book v.shelves) day (shown ascii sent) report after
      → Promised sent book today report 0 after
  ready_promised v r day e after w = rw (← translated_is sent ascii a) (ready_judged (shown ascii sent) book today report v r after (rw e at w))

  pub kept_promised : (v : Refusal) → Judgement (shown ascii sent) book today (length report) (Err v) → (n : ℕ) → n ≡ number_of v.reason * 100000 + v.record_number → Promised sent book today report n report
  kept_promised v j n e = rw e (rw (← translated_is sent ascii a) (kept (shown ascii sent) book today report v j))
