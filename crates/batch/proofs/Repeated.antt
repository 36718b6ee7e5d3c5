-- The first detail that repeats is enough: a reason is drawn there, and no later finding is reported.
-- Assumes nothing.
use Rattle.reasons.specs.declared.Reason.TheVariants.{Blank, Repeated}
use Rattle.reasons.specs.Findings.{Checked, found}
use Rattle.std.specs.Prelude.{Option, Some, Err, Ok}
use mathlib.Core.Path.{◌≡◌, refl, sym, ◌∙◌, ap}
use mathlib.Core.Bool.{Bool, true, false}
use mathlib.Core.List.{List, [], ◌∷◌, ◌++◌, map, append-nil, append_assoc}
use Prim.Native.Nat.{ℕ, ◌+◌, ◌<◌}
use native.Mathlib.Omega.{arith}
use lib.ListN.{length}
use borrow.Author.Tests.{eq-eqb, ne_eqb}
use borrow.Table.Elements.{map_app}
use Rattle.record.specs.declared.codes.Letter.{Letter}
use Rattle.record.specs.declared.codes.Letter.TheVariants.{N, C, W, I, A}
use Rattle.record.specs.declared.codes.Code.{Code}
use Rattle.record.specs.declared.codes.Code.TheVariants as code
use Rattle.record.specs.Choice.{◌and◌, ◌or◌, choose}
use Rattle.record.specs.Fields.{payment_id}
use Rattle.record.specs.Value.{held}
use Rattle.record.specs.Tests.{blank}
use Rattle.record.specs.Codes.{letter_byte, code_bytes, is_detail}
use Rattle.calendar.specs.declared.Day.{Day}
use Rattle.book.specs.Book.{Contents}
use Rattle.nesting.specs.Division.{Record, All, Own, Coded, batch_code, Payment, Batch, LegalPayment, LegalBatch, payment_onto, payments_onto, batch_lines}
use Rattle.nesting.proofs.Coding.{of_bytes, lettered}
use Rattle.repeats.specs.declared.Sort.TheVariants.{Payments}
use Rattle.tables.specs.Tables.{member}
use Rattle.kinds.specs.Kinds.{crowded}
use Rattle.repeats.specs.Repeats.{numbering, is_of, numbers, repeats, first_repeat}
use Rattle.repeats.proofs.Looks.{numbers_snoc}
use Rattle.reasons.specs.declared.Finding.{Finding}
use Rattle.reasons.specs.Findings.{sound, first, noted, after}
use Rattle.reasons.specs.Reasons.{unrepeated, composed}
use Rattle.reasons.proofs.Firsts.{after_append, after_sound, stays}
use Rattle.rules.specs.Rules.{header, detail, reason, among, rows, rules_for, findings}
use Rattle.batch.specs.Batch.{letter_of, id_of, size, context, header_codes, detail_context, payment, account_kinds, too_many, payments, batch_findings}
use Rattle.batch.specs.Walk.{is_at}
use Rattle.batch.proofs.Marked.{marked_payments, marked_findings}

-- whether a record is a detail, by its code
detail_is : (c : Code) (t : Bool) (r : Record) → is_detail c ≡ t → Coded (code_bytes c) r → is_of Payments r ≡ t
unfolding is_of
detail_is c t r e h = ap is_detail (of_bytes c r h) ∙ e

-- a payment begins with a detail
legal_detail : (l : Letter) (p : Payment) → LegalPayment (letter_byte l) p → is_of Payments p.detail ≡ true
unfolding code_bytes is_detail
legal_detail l p g = detail_is (code.Detail l) true p.detail refl g.detail

-- a batch begins with none
pub header_none : (b : Batch) → LegalBatch b → is_of Payments b.header ≡ false
unfolding code_bytes is_detail
header_none b g =
    let l = lettered g.letter g.listed in
    detail_is (code.Batch l.0) false b.header refl (g.header ∙ ap batch_code l.1)

-- the first repeat is not before the first record
at_or_later : (t : Bool) (n m : ℕ) (later : Option ℕ) → m < n → is_at later m ≡ false → is_at (choose t (Some n) later) m ≡ false
unfolding is_at choose
at_or_later true n m later h e = ne_eqb n m (λ q. omega arith)
at_or_later false n m later h e = e

not_before : (n m : ℕ) (seen rs : List Record) → m < n → is_at (first_repeat Payments n seen rs) m ≡ false
unfolding first_repeat is_at
not_before n m seen [] h = refl
not_before n m seen (r ∷ rs) h = at_or_later (repeats Payments seen r) n m _ h (not_before (n + 1) m (seen ++ r ∷ []) rs (omega arith))

-- the answer is the first repeat from the record n on, after details with these numbers
record Seeking (answer : Option ℕ) (n : ℕ) (ids : List (List ℕ)) (rs : List Record) : Type 0 where
  seen : List Record
  known : numbers Payments seen ≡ ids
  left : answer ≡ first_repeat Payments n seen rs

module _ (answer : Option ℕ) where
  -- the answer is not among the records before
  seeking_later : (n m : ℕ) (ids : List (List ℕ)) (rs : List Record) → m < n → Seeking answer n ids rs → is_at answer m ≡ false
  seeking_later n m ids rs h s = rw s.left (not_before n m s.seen rs h)

  module _ (n : ℕ) (ids : List (List ℕ)) (r : Record) (rs : List Record) (s : Seeking answer n ids (r ∷ rs)) where
    -- a record that is no detail is passed
    seeking_other : is_of Payments r ≡ false → Seeking answer (n + 1) ids rs
    unfolding first_repeat repeats choose ◌and◌
    seeking_other e =
        record {
          seen = s.seen ++ r ∷ [];
          known = numbers_snoc Payments s.seen r ∙ rw (e, append-nil (numbers Payments s.seen)) s.known;
          left = s.left ∙ rw e;
        }

    module _ (e : is_of Payments r ≡ true) where
      -- a detail with a new number is passed
      seeking_new : member (held r payment_id) ids ≡ false → Seeking answer (n + 1) (ids ++ held r payment_id ∷ []) rs
      unfolding first_repeat repeats numbering choose ◌and◌
      seeking_new m =
          record {
            seen = s.seen ++ r ∷ [];
            known = numbers_snoc Payments s.seen r ∙ rw (e, s.known);
            left = s.left ∙ rw (e, s.known, m);
          }

      -- a detail with an earlier number is the answer
      seeking_found : member (held r payment_id) ids ≡ true → is_at answer n ≡ true
      unfolding first_repeat repeats numbering choose ◌and◌ is_at
      seeking_found m = rw (s.left, e, s.known, m) (eq-eqb n n refl)

  -- records with another code are passed
  seeking_others : (c : Code) (id : List ℕ) (n : ℕ) (ids : List (List ℕ)) (xs rs : List Record) → is_detail c ≡ false → All (Own (code_bytes c) id) xs
      → Seeking answer n ids (xs ++ rs) → Seeking answer (n + length xs) ids rs
  seeking_others c id n ids [] rs o hs s = let e : n + 0 ≡ n = omega arith in rw e s
  seeking_others c id n ids (x ∷ xs) rs o hs s =
      let e : n + length (x ∷ xs) ≡ n + 1 + length xs = omega arith in
      rw e (seeking_others c id (n + 1) ids xs rs o hs.1 (seeking_other n ids x (xs ++ rs) s (detail_is c false x o hs.0.0)))

  module _ (n : ℕ) (earlier : List Payment) (p : Payment) (rs : List Record) (l : Letter) (g : LegalPayment (letter_byte l) p)
      (s : Seeking answer n (map id_of earlier) (payment_onto p rs)) where
    -- a payment with a new number is passed
    seeking_payment : member (id_of p) (map id_of earlier) ≡ false → Seeking answer (n + size p) (map id_of (earlier ++ p ∷ [])) rs
    unfolding code_bytes is_detail size
    seeking_payment m =
        let e : n + size p ≡ n + 1 + length p.parties + length p.accounts + length p.procurements = omega arith in
        rw (e, map_app id_of earlier (p ∷ []))
        (seeking_others code.Procurement (id_of p) _ _ p.procurements _ refl g.procurements
        (seeking_others code.Account (id_of p) _ _ p.accounts _ refl g.accounts
        (seeking_others code.Party (id_of p) _ _ p.parties _ refl g.parties
        (seeking_new n (map id_of earlier) p.detail _ s (legal_detail l p g) m))))

-- findings from which the same first is kept, whatever came before
abbrev Alike : List (Checked Finding) → List (Checked Finding) → Type 0
Alike xs ys = (f : Checked Finding) → after f xs ≡ after f ys

-- are so behind others and before others
behind : (xs ys zs : List (Checked Finding)) → Alike ys zs → Alike (xs ++ ys) (xs ++ zs)
behind xs ys zs h f = after_append f xs ys ∙ h (after f xs) ∙ sym (after_append f xs zs)

before : (xs ys zs : List (Checked Finding)) → Alike xs ys → Alike (xs ++ zs) (ys ++ zs)
before xs ys zs h f = after_append f xs zs ∙ ap (λ (g : Checked Finding). after g zs) (h f) ∙ sym (after_append f ys zs)

-- the first of many is a finding
unfoldable Drawn : List (Checked Finding) → Type 0
Drawn [] = ⊥
Drawn (x ∷ xs) = (g : Finding) × (x ≡ Err g)

-- a number that repeats draws a reason
repeat_drawn : (t : Bool) (n k : ℕ) → (g : Finding) × (found (choose t (Err Blank) (Err Repeated)) n k ≡ Err g)
unfolding choose found
repeat_drawn true n k = (_, refl)
repeat_drawn false n k = (_, refl)

-- from then on nothing is reported
drawn_stays : (f : Checked Finding) (xs ys : List (Checked Finding)) → Drawn xs → after (after f xs) ys ≡ after f xs
unfolding after noted Drawn
drawn_stays f [] ys d = absurd d
drawn_stays (Err f) (x ∷ xs) ys d = ap (λ (u : Checked Finding). after u ys) (stays f xs) ∙ stays f ys ∙ sym (stays f xs)
drawn_stays (Ok tt) (x ∷ xs) ys d = rw d.1 (ap (λ (u : Checked Finding). after u ys) (stays d.0 xs) ∙ stays d.0 ys ∙ sym (stays d.0 xs))

module _ (book : Contents) (today : Option Day) (h : Record) (earlier : List Payment) (d : Record) where
  -- so a detail that repeats begins with a reason, whatever its letter
  detail_drawn : (l : Letter) (n : ℕ) (r : Record) → Drawn (findings (detail_context book today h true earlier d) n r (rules_for l detail))
  unfolding Drawn detail_context context rows among findings reason detail letter_byte choose ◌and◌ ◌or◌ unrepeated composed
  detail_drawn N n r = repeat_drawn (blank (held r payment_id)) n 23
  detail_drawn C n r = repeat_drawn (blank (held r payment_id)) n 23
  detail_drawn W n r = repeat_drawn (blank (held r payment_id)) n 23
  detail_drawn I n r = repeat_drawn (blank (held r payment_id)) n 23
  detail_drawn A n r = repeat_drawn (blank (held r payment_id)) n 23

  -- and nothing that follows it is reported
  payment_closes : (l : Letter) (n : ℕ) (p : Payment) (f : Checked Finding) (xs : List (Checked Finding))
      → after f (payment book l (detail_context book today h true earlier d) n p ++ xs)
      ≡ after f (findings (detail_context book today h true earlier d) n p.detail (rules_for l detail))
  unfolding payment
  payment_closes l n p f xs =
      let ds = findings (detail_context book today h true earlier d) n p.detail (rules_for l detail) in
      ap (after f) (append_assoc ds _ xs) ∙ after_append f ds _ ∙ drawn_stays f ds _ (detail_drawn l n p.detail)

module _ (book : Contents) (today : Option Day) where
  module _ (answer : Option ℕ) (h : Record) (l : Letter) (rs : List Record) where
    -- payments of which the same first is kept, marked or not
    abbrev Same : ℕ → List Payment → List Payment → Type 0
    Same n earlier ps = Alike (marked_payments book today (is_at answer) h n earlier ps) (payments book today h n earlier ps)

    module _ (n : ℕ) (earlier : List Payment) (p : Payment) (ps : List Payment) (g : LegalPayment (letter_byte l) p)
        (s : Seeking answer n (map id_of earlier) (payments_onto (p ∷ ps) rs)) where
      -- a payment is the first that repeats, or is passed
      same_next : (t : Bool) → member (id_of p) (map id_of earlier) ≡ t
          → (Seeking answer (n + size p) (map id_of (earlier ++ p ∷ [])) (payments_onto ps rs) → Same (n + size p) (earlier ++ p ∷ []) ps) → Same n earlier (p ∷ ps)
      unfolding marked_payments payments size
      same_next true m later f =
          rw (m, seeking_found answer n (map id_of earlier) p.detail _ s (legal_detail l p g) m)
          (payment_closes book today h earlier _ (letter_of h) n p f _ ∙ sym (payment_closes book today h earlier _ (letter_of h) n p f _))
      same_next false m later f =
          let k = seeking_payment answer n earlier p _ l g s m in
          let b : n < n + size p = omega arith in
          rw (m, seeking_later answer (n + size p) n _ _ b k)
          (behind (payment book (letter_of h) (detail_context book today h false earlier p.detail) n p) _ _ (later k) f)

    -- so for all payments
    same : (ps : List Payment) (n : ℕ) (earlier : List Payment) → All (LegalPayment (letter_byte l)) ps → Seeking answer n (map id_of earlier) (payments_onto ps rs) → Same n earlier ps
    unfolding marked_payments payments
    same [] n earlier gs s f = refl
    same (p ∷ ps) n earlier gs s f =
        same_next n earlier p ps gs.0 s (member (id_of p) (map id_of earlier)) refl (same ps (n + size p) (earlier ++ p ∷ []) gs.1) f

  -- the first finding is the same where only the first detail that repeats is marked
  pub first_repeat_enough : (repeats : Bool) (n : ℕ) (b : Batch) → LegalBatch b
      → first (marked_findings book today repeats (crowded (account_kinds b.payments)) (is_at (first_repeat Payments n [] (batch_lines b))) n b) ≡ first (batch_findings book today repeats n b)
  unfolding marked_findings batch_findings too_many numbers code_bytes is_detail
  first_repeat_enough repeats n b g =
      let l = lettered g.letter g.listed in
      let answer = first_repeat Payments n [] (batch_lines b) in
      let gs : All (LegalPayment (letter_byte l.0)) b.payments = rw (← l.1) g.payments in
      let start : Seeking answer n [] (batch_lines b) = record { seen = []; known = refl; left = refl } in
      let s = seeking_other answer n [] b.header _ start (header_none b g) in
      let heads = findings (context today b.header repeats false (header_codes book b.header) []) n b.header (rules_for (letter_of b.header) header) in
      sym (after_sound _) ∙ behind heads _ _ (before _ _ _ (same answer b.header l.0 _ b.payments (n + 1) [] gs s)) sound ∙ after_sound _
