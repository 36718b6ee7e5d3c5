-- The answers 6 to 13 and the acceptance, in a file that has a division, beside a book that lists something.
-- Assumes nothing.
use mathlib.Core.Path.{◌≡◌, refl, sym, ◌∙◌, ap, subst}
use mathlib.Core.Bool.{Bool, true, false}
use mathlib.Core.List.{List, [], ◌∷◌}
use Prim.Native.Nat.{ℕ, ◌+◌, ◌-◌, ◌/◌, ◌<◌, ◌≤◌}
use native.Mathlib.Omega.{arith}
use lib.ListN.{length, take, drop}
use Rattle.std.specs.Prelude.{Option, Some, None, Result, Ok, Err}
use Rattle.verdict.specs.declared.reason.Reason.{Reason}
use Rattle.record.specs.Choice.{choose}
use Rattle.page.specs.CodePage.{shown}
use Rattle.page.proofs.Shown.{shown_length}
use Rattle.money.specs.Money.{worth, Whole}
use Rattle.money.proofs.Amounts.{worth_split, whole_of}
use Rattle.calendar.specs.Clock.{lendable}
use Rattle.book.specs.Book.{placed, listed_at, Usable}
use Rattle.book.proofs.Chains.{usable}
use Rattle.nesting.specs.Division.{Record, Division}
use Rattle.nesting.specs.Paid.{paid_by_all}
use Rattle.nesting.specs.Records.{records}
use Rattle.nesting.proofs.Cuts.{from_seen}
use Rattle.characters.specs.Characters.{clean, first_unclean}
use Rattle.report.specs.Rows.{room_for}
use Rattle.verdict.specs.declared.Accepted.{Accepted}
use Rattle.verdict.specs.declared.Refusal.{Refusal}
use Rattle.verdict.specs.Answer.{refusal, acceptance}
use Rattle.verdict.specs.declared.reason.Reason.TheVariants.{ReportShort, LowByte}
use Rattle.verdict.specs.Answer.Judgement.{refused}
use Rattle.verdict.specs.Order.{header_reason, trailer_reason, from_trailer, from_header, Known, Clear, Framed, Roomed}
use Rattle.verdict.proofs.Ends.{count_of, batches_few, header_first, trailer_last}
use Rattle.verdict.proofs.Tests.{clear_next, given, Tested, clear_by, refused_by}
use Rattle.verdict.proofs.Answers.{of_these, of_others, known_clear, header_tested, trailer_tested, accepted_as}

-- the record with a low byte is one of the file's
unclean_few : (n : ℕ) (rs : List Record) (m : ℕ) → Some m ≡ first_unclean n rs → m ≤ n + length rs
unfolding first_unclean choose
unclean_few n [] m e = absurd (cc)
unclean_few n (r ∷ rs) m e = go (clean r) e (unclean_few (n + 1) rs m)
  where
    go : (b : Bool) → Some m ≡ choose b (first_unclean (n + 1) rs) (Some n) → (Some m ≡ first_unclean (n + 1) rs → m ≤ n + 1 + length rs) → m ≤ n + length (r ∷ rs)
    go true q h = omega (arith, h q)
    go false q h = let k : m ≡ n = cc in omega (arith, k)

-- a file that has a division, beside a book that lists something
module _ (file book : List ℕ) (v : Accepted) (k : Known file book v) where
  abbrev d : Division
  d = k.division

  some_record : 850 ≤ length file
  some_record = omega (arith, batches_few file k.cuttable d k.divided)

  batched : v.counts.batches ≡ length d.batches
  unfolding acceptance
  batched = ap (λ (u : Accepted). u.counts.batches) k.accepts

  pub batches_small : v.counts.batches < 65536
  batches_small = omega (arith, batched, k.cuttable.few, batches_few file k.cuttable d k.divided)

  pub book_usable : Usable book v.shelves
  unfolding acceptance placed
  book_usable = subst (λ (u : Accepted). Usable book u.shelves) (sym k.accepts) (usable book k.contents k.lists)

  pub total_whole : Whole v.total
  unfolding acceptance
  total_whole = whole_of v.total (paid_by_all d.batches) (ap (λ (u : Accepted). u.total) k.accepts)

  -- the report's room, and the first low byte
  module _ (room wanted : ℕ) (w : wanted ≡ room_for v.counts.batches) where
    room_is : wanted ≡ room_for (length d.batches)
    room_is = w ∙ ap room_for batched

    pub short : room < wanted → (u : Refusal) → u ≡ refusal ReportShort 0 → Roomed file book room (Err u)
    short l u q =
        record {
          judged = λ today lent.
              let o = of_these file book today room v k (λ c e. room < room_for (length e.batches)) (rw (← room_is) l) in
              rw q (refused ReportShort 0 (given file book today room ReportShort 0 (known_clear file book today room v k lent) o refl));
        }

    module _ (l : wanted ≤ room) where
      long_clear : (today : List ℕ) → lendable today ≡ true → Clear file book today room (LowByte ∷ from_header)
      long_clear today lent =
          clear_next file book today room ReportShort (known_clear file book today room v k lent)
          (λ o. omega (arith, l, room_is, of_others file book today room v k (λ c e. room < room_for (length e.batches)) o))

      pub low : (n : ℕ) → Some n ≡ first_unclean 1 (records file) → (u : Refusal) → u ≡ refusal LowByte n → Roomed file book room (Err u)
      low n e u q =
          record { judged = λ today lent. rw q (refused LowByte n (given file book today room LowByte n (long_clear today lent) (λ z. absurd (cc)) e)) }

      pub onward : None ≡ first_unclean 1 (records file) → (u : Result Accepted Refusal) → Framed file book u → Roomed file book room u
      onward z u f =
          record { judged = λ today lent. f.judged today room (clear_next file book today room LowByte (long_clear today lent) (λ n. n (sym z))) }

  pub unclean_small : (n : ℕ) → Some n ≡ first_unclean 1 (records file) → n ≤ 65536
  unclean_small n e = omega (arith, unclean_few 1 (records file) n e, count_of file, k.cuttable.few)

-- the same file, as it was sent
module _ (ascii : Bool) (sent book : List ℕ) (v : Accepted) (k : Known (shown ascii sent) book v) where
  abbrev file : List ℕ
  file = shown ascii sent

  pub some_sent : 850 ≤ length sent
  some_sent = omega (arith, some_record file book v k, shown_length ascii sent)

  pub number_small : length sent / 850 ≤ 65536
  number_small = omega (arith, k.cuttable.few, shown_length ascii sent)

  -- FH, as it is handed on
  header_is : shown ascii (take 850 sent) ≡ k.division.header
  header_is = from_seen ascii sent 1 0 ∙ header_first file k.cuttable k.division k.divided

  module _ (h : Option Reason) (e : h ≡ header_reason (listed_at book v.shelves) (shown ascii (take 850 sent))) where
    header_read : (today : List ℕ) (room : ℕ) → Clear file book today room from_header → Tested file book today room from_trailer 1 h
    header_read today room c =
        subst (λ (r : Option Reason). Tested file book today room from_trailer 1 r) (sym (e ∙ ap (header_reason (listed_at book v.shelves)) header_is)) (header_tested file book today room v k c)

    pub header_refused : (j : Reason) → h ≡ Some j → (u : Refusal) → u ≡ refusal j 1 → Framed file book (Err u)
    header_refused j n u q = record { judged = λ today room c. rw q (refused_by file book today room (header_read today room c) j n) }

    -- FT, as it is handed on
    abbrev last : List ℕ
    last = take (length sent - (length sent - 850)) (drop (length sent - 850) sent)

    trailer_is : shown ascii last ≡ k.division.trailer
    trailer_is =
        let n : length sent - (length sent - 850) ≡ 850 = omega (arith, some_sent) in
        let m : length sent - 850 + 850 - (length sent - 850) ≡ 850 = omega arith in
        rw n (rw m at (from_seen ascii sent 1 (length sent - 850)) ∙ rw (← shown_length ascii sent) (trailer_last file k.cuttable k.division k.divided))

    module _ (z : h ≡ None) (t : Option Reason) (f : t ≡ trailer_reason (length sent / 850) v.counts.payments (worth v.total) (shown ascii last)) where
      trailer_read : (today : List ℕ) (room : ℕ) → Clear file book today room from_header → Tested file book today room [] (length file / 850) t
      unfolding acceptance
      trailer_read today room c =
          let w : worth v.total ≡ paid_by_all k.division.batches = ap (λ (u : Accepted). worth u.total) k.accepts ∙ worth_split _ in
          let g = rw (w, trailer_is, ← shown_length ascii sent) at f in
          rw g (trailer_tested file book today room v k (clear_by file book today room (header_read today room c) z))

      pub trailer_refused : (j : Reason) → t ≡ Some j → (u : Refusal) → u ≡ refusal j (length sent / 850) → Framed file book (Err u)
      trailer_refused j n u q = record { judged = λ today room c. rw (q, ← shown_length ascii sent) (refused_by file book today room (trailer_read today room c) j n) }

      pub all_passed : t ≡ None → Framed file book (Ok v)
      all_passed o = record { judged = λ today room c. accepted_as file book today room v k (clear_by file book today room (trailer_read today room c) o) }
