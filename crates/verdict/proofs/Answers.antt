-- What the tests come to in a file that has a division, beside a book that lists something.
-- Assumes nothing.
use mathlib.Core.Path.{◌≡◌, refl, sym, ◌∙◌, ap, subst}
use mathlib.Core.Bool.{true, false, true≢false}
use mathlib.Core.List.{List, [], ◌∷◌}
use Prim.Native.Nat.{ℕ, ◌/◌}
use native.Mathlib.Omega.{arith}
use lib.Dec.{eqb}
use borrow.Author.Tests.{eqb-true, eqb-false}
use lib.ListN.{length}
use Rattle.std.specs.Prelude.{Option, Some, None, Ok}
use Rattle.record.specs.Choice.{choose}
use Rattle.record.specs.Fields.{input_system, version_identifier, total_count_records, total_count, total_amount}
use Rattle.record.specs.Value.{held}
use Rattle.record.specs.Tests.{digits, alike}
use Rattle.record.specs.Numeral.{numeral}
use Rattle.record.proofs.Chain.{and_right}
use Rattle.money.specs.Money.{cents}
use Rattle.calendar.specs.Clock.{lendable}
use Rattle.book.specs.Book.{Contents, listed_at}
use Rattle.book.proofs.Chains.{listed_there, lists_one}
use Rattle.nesting.specs.Division.{Division, lines, payment_count}
use Rattle.nesting.specs.Paid.{paid_by_all}
use Rattle.nesting.specs.Records.{records}
use Rattle.nesting.proofs.OneDivision.{one_division}
use Rattle.verdict.specs.declared.Accepted.{Accepted}
use Rattle.verdict.specs.declared.reason.Reason.{Reason}
use Rattle.verdict.specs.Answer.{stated, version201, strange, numbered, acceptance, Of, Applies, Names, Judgement}
use Rattle.verdict.specs.declared.reason.Reason.TheVariants.{Empty, Ragged, TooLong, BookUnsound, NoDay, Nesting, InputSystem, Version, TrailerDigits, RecordCount, PaymentCount, TotalAmount}
use Rattle.verdict.specs.Answer.Judgement.{accepted}
use Rattle.verdict.specs.Order.{header_reason, numbered_in, trailer_reason, from_trailer, from_header, from_room, Known, Clear}
use Rattle.verdict.proofs.Numbers.{among}
use Rattle.verdict.proofs.Ends.{count_of, batches_few}
use Rattle.verdict.proofs.Tests.{clear_start, clear_next, clear_of, Tested, where_holds, where_fails}
use Rattle.verdict.proofs.Tests.Tested.{passed}

-- where all are digits they are worth what they write
digits_worth : (xs : List ℕ) → digits xs ≡ true → cents xs ≡ numeral xs
unfolding cents choose
digits_worth xs e = rw e

module _ (file book today : List ℕ) (room : ℕ) (v : Accepted) (k : Known file book v) where
  abbrev c : Contents
  c = k.contents

  abbrev d : Division
  d = k.division

  -- what holds of this division and these contents, and of no others
  pub of_these : (P : Contents → Division → Type 0) → P c d → Of file book today room P
  of_these P h = record { contents = c; lists = k.lists; division = d; divided = k.divided; holds = h }

  pub of_others : (P : Contents → Division → Type 0) → Of file book today room P → P c d
  of_others P o =
      subst (λ (x : Contents). P x d) (lists_one book o.contents c o.lists k.lists)
      (subst (λ (x : Division). P o.contents x) (one_division (records file) o.division d o.divided k.divided) o.holds)

  -- the tests before the report's room are behind
  pub known_clear : lendable today ≡ true → Clear file book today room from_room
  unfolding stated
  known_clear lent =
      clear_next file book today room Nesting
      (clear_next file book today room NoDay
      (clear_next file book today room BookUnsound
      (clear_next file book today room TooLong
      (clear_next file book today room Ragged
      (clear_next file book today room Empty (clear_start file book today room) (λ a. omega (arith, a, batches_few file k.cuttable d k.divided)))
      (λ a. a k.cuttable.whole))
      (λ a. omega (arith, a, k.cuttable.few)))
      (λ a. a c k.lists))
      (λ a. true≢false (sym lent ∙ a)))
      (λ a. a (d, k.divided))

  -- FH
  pub header_tested : Clear file book today room from_header → Tested file book today room from_trailer 1 (header_reason (listed_at book v.shelves) d.header)
  unfolding header_reason acceptance
  header_tested e =
      let x = held d.header input_system in
      let there : listed_at book v.shelves ≡ c = ap (λ (u : Accepted). listed_at book u.shelves) k.accepts ∙ listed_there book c k.lists in
      let same = ap (λ (c : Contents). strange c x) there in
      where_holds file book today room InputSystem (strange (listed_at book v.shelves) x) _ e refl
      (λ t. of_these (λ c d. strange c (held d.header input_system) ≡ true) (sym same ∙ t))
      (λ f a. true≢false (sym (of_others _ a) ∙ sym same ∙ f)) (λ e.
      where_fails file book today room Version (alike (held d.header version_identifier) version201) None e refl
      (λ f. of_these (λ c d. alike (held d.header version_identifier) version201 ≡ false) f)
      (λ t a. true≢false (sym t ∙ of_others _ a)) (λ t e. passed e))

  -- a number of the division held against another: the reason applies where they differ
  where_unequal : {left : List Reason} {m : ℕ} (j : Reason) {next : List Reason} (X Y : Division → ℕ) (x y : ℕ) → x ≡ X d → y ≡ Y d
      → (Of file book today room (λ c e. X e ≡ Y e → ⊥) → Applies file book today room j) → (Applies file book today room j → Of file book today room (λ c e. X e ≡ Y e → ⊥))
      → (r : Option Reason) → Clear file book today room (j ∷ next) → Names file book today room j m
      → (Clear file book today room next → Tested file book today room left m r) → Tested file book today room left m (choose (eqb x y) r (Some j))
  where_unequal j X Y x y p q to from r e i rest =
      let P : Contents → Division → Type 0 = λ c e. X e ≡ Y e → ⊥ in
      where_fails file book today room j (eqb x y) r e i (λ f. to (of_these P (λ u. eqb-false x y f (p ∙ u ∙ sym q))))
      (λ t a. of_others P (from a) (sym p ∙ eqb-true x y t ∙ q)) (λ t e. rest e)

  -- FT
  pub trailer_tested : Clear file book today room from_trailer
      → Tested file book today room [] (length file / 850) (trailer_reason (length file / 850) v.counts.payments (paid_by_all d.batches) d.trailer)
  unfolding trailer_reason numbered_in numbered acceptance
  trailer_tested e =
      let t = d.trailer in
      let last : length file / 850 ≡ length (records file) = sym (count_of file) in
      let count : length file / 850 ≡ length (lines d) = last ∙ ap length (sym k.divided.whole) in
      let paid : v.counts.payments ≡ payment_count d.batches = ap (λ (u : Accepted). u.counts.payments) k.accepts in
      where_fails file book today room TrailerDigits (numbered_in t) _ e last
      (λ f. of_these (λ c e. numbered e ≡ false) f) (λ y a. true≢false (sym y ∙ of_others _ a)) (λ y e.
      let worth = digits_worth (held t total_amount) (and_right (digits (held t total_count)) _ (and_right (digits (held t total_count_records)) _ y)) in
      where_unequal RecordCount (λ e. numeral (held e.trailer total_count_records)) (λ e. length (lines e)) _ _ refl count (λ a. a) (λ a. a) _ e last (λ e.
      where_unequal PaymentCount (λ e. numeral (held e.trailer total_count)) (λ e. payment_count e.batches) _ _ refl paid (λ a. a) (λ a. a) _ e last (λ e.
      where_unequal TotalAmount (λ e. numeral (held e.trailer total_amount)) (λ e. paid_by_all e.batches) _ _ worth refl (λ a. a) (λ a. a) None e last passed)))

  -- nothing is left
  pub accepted_as : Clear file book today room [] → Judgement file book today room (Ok v)
  unfolding among
  accepted_as e = rw k.accepts (accepted (λ j. clear_of file book today room e j refl) c k.lists d k.divided)
