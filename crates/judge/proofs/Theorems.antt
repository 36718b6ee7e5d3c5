-- What the entry's promise comes to: refused for nesting exactly when no legal division exists; rejected batches count.
-- Assumes nothing.
use Rattle.std.specs.Prelude.{Some}
use mathlib.Core.Path.{◌≡◌, refl, sym, ◌∙◌}
use mathlib.Core.Bool.{Bool, true, false, true≢false}
use mathlib.Core.List.{List, [], ◌∷◌, ◌++◌}
use Prim.Native.Nat.{ℕ, ◌+◌, ◌*◌, ◌/◌, ◌%◌, ◌<◌, ◌≤◌}
use native.Mathlib.Omega.{arith}
use lib.Dec.{eqb}
use lib.ListN.{length, replicate, length-replicate}
use borrow.Author.Tests.{eqb-true, eqb-false}
use Rattle.record.specs.Choice.{choose}
use Rattle.record.specs.Fields.{total_count_records, total_count, total_amount}
use Rattle.record.specs.Value.{held}
use Rattle.record.specs.Numeral.{numeral}
use Rattle.calendar.specs.Clock.{lendable}
use Rattle.book.specs.Book.{Contents, Lists}
use Rattle.nesting.specs.Division.{Record, Division, DivisionOf, Divided, lines, payment_count}
use Rattle.nesting.specs.Paid.{paid_by_all}
use Rattle.nesting.specs.Records.{records, Cuttable}
use Rattle.nesting.specs.Promise.{RefusedAt}
use Rattle.nesting.proofs.Cuts.{cut_length}
use Rattle.characters.specs.Characters.{clean, first_unclean}
use Rattle.verdict.specs.declared.reason.Reason.{Reason}
use Rattle.verdict.specs.Answer.{number_of, stated, Applies, Names, NoneOf, Refused}
use Rattle.verdict.proofs.Numbers.{one_reason}
use Rattle.verdict.proofs.Theorems.{same_place}
use Rattle.judge.specs.Judged.{Judged}
use Rattle.judge.proofs.Ready.{not_zero}

-- the reasons that are tested before two of them
abbrev before_too_long : List Reason
before_too_long = Reason.Empty ∷ Reason.Ragged ∷ []

abbrev before_nesting : List Reason
before_nesting = Reason.Empty ∷ Reason.Ragged ∷ Reason.TooLong ∷ Reason.BookUnsound ∷ Reason.NoDay ∷ []

-- a reason that applies, and before which none does, is the one given
module _ (file book today : List ℕ) (room : ℕ) (j : Reason) (earlier later : List Reason) (order : stated ≡ earlier ++ j ∷ later) (none : NoneOf file book today room earlier)
    (holds : Applies file book today room j) where
  the_first : (k : Reason) (m : ℕ) → Refused file book today room k m → k ≡ j
  the_first k m r = same_place file book today room r.earlier earlier r.later later k j (sym r.order ∙ order) r.first none r.applies holds

-- the record named has a number of five digits
unclean_small : (n : ℕ) (rs : List Record) (m : ℕ) → Some m ≡ first_unclean n rs → m ≤ n + length rs
unfolding first_unclean choose
unclean_small n [] m e = absurd (cc)
unclean_small n (r ∷ rs) m e = go (clean r) e (unclean_small (n + 1) rs m)
  where
    go : (b : Bool) → Some m ≡ choose b (first_unclean (n + 1) rs) (Some n) → (Some m ≡ first_unclean (n + 1) rs → m ≤ n + 1 + length rs) → m ≤ n + length (r ∷ rs)
    go true h k = omega (arith, k h)
    go false h k = let q : m ≡ n = cc in omega arith

module _ (file book today : List ℕ) (w : Cuttable file) where
  few : length (records file) ≤ 65535
  unfolding records
  few = let e = cut_length 1 (length file / 850) file in omega (arith, w.few, e)

  named_small : (room : ℕ) (k : Reason) (m : ℕ) → Names file book today room k m → m ≤ 65536
  named_small room Reason.Empty m e = omega arith
  named_small room Reason.Ragged m e = omega arith
  named_small room Reason.TooLong m e = omega arith
  named_small room Reason.BookUnsound m e = omega arith
  named_small room Reason.NoDay m e = omega arith
  named_small room Reason.Nesting m e = omega (arith, few, e.to)
  named_small room Reason.ReportShort m e = omega arith
  named_small room Reason.LowByte m e = omega (arith, few, unclean_small 1 (records file) m e)
  named_small room Reason.InputSystem m e = omega arith
  named_small room Reason.Version m e = omega arith
  named_small room Reason.TrailerDigits m e = omega (arith, few, e)
  named_small room Reason.RecordCount m e = omega (arith, few, e)
  named_small room Reason.PaymentCount m e = omega (arith, few, e)
  named_small room Reason.TotalAmount m e = omega (arith, few, e)

  -- a number that says nesting, and the record that it names
  pub record ForNesting (answer : ℕ) : Type 0 where
    pub at : ℕ
    pub is : answer ≡ 500000 + at
    pub named : RefusedAt (records file) at

  -- nesting, with its record
  told : (room : ℕ) (k : Reason) (m : ℕ) → Refused file book today room k m → k ≡ Reason.Nesting → ForNesting (number_of k * 100000 + m)
  unfolding number_of
  told room k m r q = record { at = m; is = rw q (omega arith); named = (rw q at r).names }

  -- a number from 500,000 on and below 600,000 names the record at which no legal file is begun
  pub nesting_named : (report after : List ℕ) (answer : ℕ) → Judged file book today report answer after → 500000 ≤ answer → answer < 600000 → ForNesting answer
  unfolding number_of
  nesting_named report after answer (Judged.refused k m r) h l =
      let s = named_small (length report) k m r.names in
      told (length report) k m r (one_reason k Reason.Nesting (omega (arith, s)))
  nesting_named report after answer (Judged.accepted n c l d g) h k = absurd (omega arith)

  -- so it is given only where no legal division exists
  pub refused_undivided : (report after : List ℕ) (answer : ℕ) → Judged file book today report answer after → 500000 ≤ answer → answer < 600000 → Divided (records file) → ⊥
  refused_undivided report after answer j h l = (nesting_named report after answer j h l).named.none

  -- and where none exists it is given, if there are records, the book is sound, and a real day is lent for today, or nothing (02 W4)
  module _ (some : 1 ≤ length file) (c : Contents) (lists : Lists book c) (lent : lendable today ≡ true) (none : Divided (records file) → ⊥) where
    before : (room : ℕ) → NoneOf file book today room before_nesting
    before room = (λ a. omega arith, (λ a. a w.whole, (λ a. omega (arith, a, w.few), (λ a. a c lists, (λ a. true≢false (sym lent ∙ a), tt)))))

    pub undivided_refused : (report after : List ℕ) (answer : ℕ) → Judged file book today report answer after → ForNesting answer
    unfolding stated
    undivided_refused report after answer (Judged.refused k m r) = told (length report) k m r (the_first file book today (length report) Reason.Nesting before_nesting _ refl (before (length report)) none k m r)
    undivided_refused report after answer (Judged.accepted n x l d g) = absurd (none (d, g))

-- an accepted file's trailer has the numbers of all its batches, whatever their rows say: rejected batches count in 11 to 13
pub record Counted (d : Division) : Type 0 where
  pub records : numeral (held d.trailer total_count_records) ≡ length (lines d)
  pub payments : numeral (held d.trailer total_count) ≡ payment_count d.batches
  pub amount : numeral (held d.trailer total_amount) ≡ paid_by_all d.batches

-- numbers of which it is not said that they differ
same_number : (a b : ℕ) → ((a ≡ b → ⊥) → ⊥) → a ≡ b
same_number a b n = go (eqb a b) refl
  where
    go : (t : Bool) → eqb a b ≡ t → a ≡ b
    go true e = eqb-true a b e
    go false e = absurd (n (eqb-false a b e))

pub accepted_counts : (file book today report after : List ℕ) (answer : ℕ) → Judged file book today report answer after → answer ≡ 0 → (d : Division) → DivisionOf (records file) d → Counted d
accepted_counts file book today report after answer (Judged.refused k m r) z d h = absurd (not_zero k m z)
accepted_counts file book today report after answer (Judged.accepted n c l x g) z d h =
    record {
      records = same_number _ _ (λ e. n Reason.RecordCount (record { contents = c; lists = l; division = d; divided = h; holds = e }));
      payments = same_number _ _ (λ e. n Reason.PaymentCount (record { contents = c; lists = l; division = d; divided = h; holds = e }));
      amount = same_number _ _ (λ e. n Reason.TotalAmount (record { contents = c; lists = l; division = d; divided = h; holds = e }));
    }

-- a file of whole records that is longer than 65,535 of them is answered 3, whatever the book and the report; and there is one, so that no
-- answer is without an input (the program `examples` has inputs for the others)
module _ (file book today : List ℕ) (whole : length file % 850 ≡ 0) (long : 65535 * 850 < length file) where
  sooner : (room : ℕ) → NoneOf file book today room before_too_long
  sooner room = (λ a. omega arith, (λ a. a whole, tt))

  pub too_long_refused : (report after : List ℕ) (answer : ℕ) → Judged file book today report answer after → answer ≡ 300000
  unfolding number_of stated
  too_long_refused report after answer (Judged.refused k m r) = go (the_first file book today (length report) Reason.TooLong before_too_long _ refl (sooner (length report)) long k m r) r.names
    where
      go : k ≡ Reason.TooLong → Names file book today (length report) k m → number_of k * 100000 + m ≡ 300000
      go q n = let z : m ≡ 0 = rw q at n in rw q (omega (arith, z))
  too_long_refused report after answer (Judged.accepted n c l d g) = absurd (n Reason.TooLong long)

-- bytes of any length
blanks : (n : ℕ) → (file : List ℕ) × (length file ≡ n)
blanks n = (replicate n 0x40, length-replicate n 0x40)

pub a_file_too_long : (file : List ℕ) × (length file % 850 ≡ 0) × (65535 * 850 < length file)
a_file_too_long = let l = (blanks 55705600).1 in ((blanks 55705600).0, omega (arith, l), omega (arith, l))
