-- What the entry's promise comes to for ASCII files (02 W2): each is answered as its translation is, and demand 3 holds of the translated records.
-- Assumes nothing.
use mathlib.Core.Path.{◌≡◌}
use mathlib.Core.Bool.{true, false}
use mathlib.Core.List.{List}
use Prim.Native.Nat.{ℕ, ◌<◌, ◌≤◌}
use native.Mathlib.Omega.{arith}
use lib.ListN.{length}
use Rattle.page.specs.CodePage.{is_ascii, translated}
use Rattle.page.proofs.Shown.{translated_length, translated_other, translated_twice}
use Rattle.calendar.specs.Clock.{lendable}
use Rattle.book.specs.Book.{Contents, Lists}
use Rattle.nesting.specs.Division.{Division, DivisionOf, Divided}
use Rattle.nesting.specs.Records.{records, Cuttable}
use Rattle.judge.specs.Judged.{Judged, Promised}
use Rattle.judge.proofs.Theorems.{ForNesting, Counted, nesting_named, refused_undivided, undivided_refused, accepted_counts}
use Rattle.judge.proofs.Unique.{one_judged}

module _ (file book today report : List ℕ) where
  -- the translated file is no ASCII file itself: what is promised of it is what is promised of the file
  pub same_promise : (answer : ℕ) (after : List ℕ) → Promised file book today report answer after → Promised (translated file) book today report answer after
  same_promise answer after p = rw (translated_twice file) p

  -- so that both are given one number and one report
  pub same_answer : (r s : ℕ) (x y : List ℕ) → Promised file book today report r x → Promised (translated file) book today report s y → (r ≡ s) × (x ≡ y)
  same_answer r s x y p q = one_judged (translated file) book today report r s x y p (rw (translated_twice file) at q)

  -- a file that is not ASCII is its own translation
  pub other_promise : is_ascii file ≡ false → (answer : ℕ) (after : List ℕ) → Promised file book today report answer after → Judged file book today report answer after
  other_promise e answer after p = rw (translated_other file e) at p

-- demand 3, of the entry: over the records of the translated file
module _ (file book today : List ℕ) (w : Cuttable file) where
  pub whole : Cuttable (translated file)
  whole = record { whole = rw (translated_length file) w.whole; few = rw (translated_length file) w.few }

  module _ (report after : List ℕ) (answer : ℕ) (p : Promised file book today report answer after) where
    pub promised_named : 500000 ≤ answer → answer < 600000 → ForNesting (translated file) book today whole answer
    promised_named h l = nesting_named (translated file) book today whole report after answer p h l

    pub promised_undivided : 500000 ≤ answer → answer < 600000 → Divided (records (translated file)) → ⊥
    promised_undivided h l = refused_undivided (translated file) book today whole report after answer p h l

    pub promised_refused : 1 ≤ length file → (c : Contents) → Lists book c → lendable today ≡ true → (Divided (records (translated file)) → ⊥) → ForNesting (translated file) book today whole answer
    promised_refused some c lists lent none =
        undivided_refused (translated file) book today whole (omega (arith, some, translated_length file)) c lists lent none report after answer p

    pub promised_counts : answer ≡ 0 → (d : Division) → DivisionOf (records (translated file)) d → Counted d
    promised_counts z d h = accepted_counts (translated file) book today report after answer p z d h
