-- Each function of the walk does what its definition says: the parts of a result, put together.
-- Assumes nothing.
use Rattle.record.specs.declared.codes.Letter.TheVariants.{N, C, W, I, A}
use Rattle.record.proofs.Chain.{chain, reads}
use Rattle.reasons.specs.Findings.{Checked, found, noted}
use Rattle.std.specs.Prelude.{Option, Some, None, is_some, unwrap_or, Ok, Err}
use Rattle.std.specs.Option.{option_eq}
use mathlib.Core.Path.{◌≡◌, refl, sym, ap, ◌∙◌}
use mathlib.Core.Bool.{Bool, true, false}
use mathlib.Core.List.{List, ◌++◌}
use Prim.Native.Nat.{ℕ, ◌+◌}
use lib.Dec.{eqb}
use borrow.Author.Tests.{eq-eqb, ne_eqb}
use Rattle.record.specs.declared.codes.Letter.{Letter}
use Rattle.record.specs.declared.codes.Code.{Code}
use Rattle.record.specs.Choice.{◌or◌, ◌and◌, choose}
use Rattle.record.specs.Fields.{summary_total_amount, agency_location_code, check_symbol_number, check_accounting_month_and_year, amount, payment_type_code, state_code, country_code, original_currency_code, account_amount, procurement_amount}
use Rattle.record.specs.Value.{held}
use Rattle.record.specs.Tests.{blank}
use Rattle.record.specs.Codes.{letter_byte, code_of, letter_in}
use Rattle.money.specs.declared.Amount.{Amount}
use Rattle.money.specs.Money.{worth, split, cents}
use Rattle.money.proofs.Amounts.{worth_split}
use Rattle.calendar.specs.declared.Month.{Month}
use Rattle.calendar.specs.declared.Day.{Day}
use Rattle.calendar.specs.Clock.{month_in}
use Rattle.book.specs.Book.{Contents, listing}
use Rattle.nesting.specs.Division.{Record}
use Rattle.reasons.specs.declared.Finding.{Finding}
use Rattle.reasons.specs.Findings.{sound, after}
use Rattle.reasons.proofs.Firsts.{after_append}
use Rattle.rules.specs.declared.Codes.{Codes}
use Rattle.rules.specs.declared.Context.{Context}
use Rattle.rules.specs.Rules.{Rule, among, check, header, detail, party, account, procurement, lone_procurement, rules_for, findings}
use Rattle.batch.specs.declared.payment.Open.{Open}
use Rattle.batch.specs.declared.walk.Header.{Header}
use Rattle.batch.specs.declared.walk.State.{State}
use Rattle.batch.specs.Batch.{first_serial, no_codes, location, betc, with_codes, location_only, betc_only, detail_codes, account_context}
use Rattle.batch.specs.Walk.{account_reason, procurement_reason, lack_reason, is_at, opened, with_account, with_procurement, ended, context_of, knowing, head, opening, payer_in, paying_context, next_procurement, last, detailed, partied, accounted, procured, trailed, step_of}

-- which record repeats
-- the record that repeats is asked for by equality
pub at_is : (r : Option ℕ) (n : ℕ) → option_eq eqb r (Some n) ≡ is_at r n
unfolding is_at
at_is None n = refl
at_is (Some k) n = refl

-- the letter of check batches is asked for by its name
pub check_is : (l : Letter) → l ≡ C → true ≡ among l check
unfolding among letter_byte ◌or◌
check_is l e = rw e

pub check_not : (l : Letter) → (l ≡ C → ⊥) → false ≡ among l check
unfolding among letter_byte ◌or◌
check_not N h = refl
check_not C h = absurd (h refl)
check_not W h = refl
check_not I h = refl
check_not A h = refl

-- two tests
pub both : (a b x : Bool) → a ≡ true → b ≡ x → (a and b) ≡ x
unfolding ◌and◌
both a b x e h = rw e h

pub not_first : (a b : Bool) → a ≡ false → (a and b) ≡ false
unfolding ◌and◌
not_first a b e = rw e

-- a sum that was added is the sum that is asked for
pub sum_told : (a b : Amount) (x : ℕ) (r t : Bool) → a ≡ split x → r ≡ eqb (worth a) (worth b) → r ≡ t → eqb x (worth b) ≡ t
sum_told a b x r t e h k = rw (← worth_split x, ← e) (sym h ∙ k)

-- what is wrong with the sums of a payment, after what is known
pub ending : (f : Checked Finding) (o : Open)
    → after f (ended o) ≡ noted f (noted (found (account_reason o) o.number 87) (noted (found (procurement_reason o) o.number 96) (found (lack_reason o) o.number 76)))
unfolding ended after noted
ending (Err g) o = refl
ending (Ok tt) o = go (found (account_reason o) o.number 87) (found (procurement_reason o) o.number 96) (found (lack_reason o) o.number 76)
  where
    go : (x y z : Checked Finding) → noted (noted x y) z ≡ noted x (noted y z)
    go (Ok tt) y z = refl
    go (Err g) y z = refl

-- some findings, and then others
pub then : (f g z : Checked Finding) (xs ys : List (Checked Finding)) → g ≡ after f xs → z ≡ after g ys → z ≡ after f (xs ++ ys)
then f g z xs ys e h = h ∙ ap (λ (k : Checked Finding). after k ys) e ∙ sym (after_append f xs ys)

-- a payment with a first DP, and with a later one
module _ (o : Open) (b : Bool) (n : ℕ) (a : Amount) where
  abbrev with_blank : Bool → Open
  with_blank bare =
      record {
        number = o.number;
        context = o.context;
        amount = o.amount;
        accounts = o.accounts;
        sum = o.sum;
        procurements = o.procurements + 1;
        blank = bare;
        procured = a;
      }

  pub procured_first : o.procurements ≡ 0 → a ≡ split (worth o.procured + n) → with_blank b ≡ with_procurement o b n
  unfolding with_procurement choose
  procured_first e h = rw (eq-eqb o.procurements 0 e, h)

  pub procured_later : (o.procurements ≡ 0 → ⊥) → a ≡ split (worth o.procured + n) → with_blank o.blank ≡ with_procurement o b n
  unfolding with_procurement choose
  procured_later e h = rw (ne_eqb o.procurements 0 e, h)

-- the context of a record that has no codes
pub emptied : (s : State) (k : Codes) (c : Context) (repeats reporter : Bool) → k ≡ no_codes → c ≡ context_of s repeats reporter k → c ≡ context_of s repeats reporter no_codes
emptied s k c repeats reporter e h = h ∙ rw e

module _ (n : ℕ) (r : Record) where
  -- the rules of a first DP, and of a later one
  module _ (c : Context) (f z : Checked Finding) (k : ℕ) where
    pub own_lone : k ≡ 0 → z ≡ after f (findings c n r (rules_for N lone_procurement)) → z ≡ after f (findings c n r (rules_for N (choose (eqb k 0) lone_procurement procurement)))
    unfolding choose
    own_lone e h = rw (eq-eqb k 0 e) h

    pub own_other : (k ≡ 0 → ⊥) → z ≡ after f (findings c n r (rules_for N procurement)) → z ≡ after f (findings c n r (rules_for N (choose (eqb k 0) lone_procurement procurement)))
    unfolding choose
    own_other e h = rw (ne_eqb k 0 e) h

  -- the rules see the context that was put together
  pub in_context : (c d : Context) (f z : Checked Finding) (rs : List Rule) → c ≡ d → z ≡ after f (findings c n r rs) → z ≡ after f (findings d n r rs)
  in_context c d f z rs e h = rw (← e) h

  -- the state after a DX, a DP and a BT
  module _ (s z : State) where
    pub party_taken : (f : Checked Finding) → f ≡ after s.finding (findings s.payment.context n r (rules_for s.header.letter party))
        → z ≡ knowing s f s.payment s.accounts → z ≡ partied s n r
    unfolding partied
    party_taken f e h = h ∙ rw e

    pub procurement_taken : (f : Checked Finding) (bare : Bool) (a : Amount) (o : Open) → f ≡ after s.finding (next_procurement s.payment n r)
        → bare ≡ blank (held r procurement_amount) → a ≡ split (cents (held r procurement_amount)) → o ≡ with_procurement s.payment bare (worth a)
        → z ≡ knowing s f o s.accounts → z ≡ procured s n r
    unfolding procured
    procurement_taken f bare a o e c d k h = h ∙ rw (k, e, c, d, worth_split)

    pub trailer_taken : (g f : Checked Finding) → g ≡ after s.finding (ended s.payment) → f ≡ after g (last s n r)
        → z ≡ knowing s f s.payment s.accounts → z ≡ trailed s n r
    unfolding trailed
    trailer_taken g f e d h = h ∙ rw (d, e)

module _ (book : Contents) (r : Record) where
  -- which of a detail's codes are listed
  pub codes_looked_up : (payer : Bool) (t s c m : Option Bool) → t ≡ listing 25 book.types (held r payment_type_code) → s ≡ listing 2 book.states (held r state_code)
      → c ≡ listing 2 book.countries (held r country_code) → m ≡ listing 3 book.currencies (held r original_currency_code)
      → record { locations = payer; betcs = false; types = is_some t; states = is_some s; countries = is_some c; currencies = is_some m } ≡ detail_codes book payer r
  unfolding detail_codes
  codes_looked_up payer t s c m d e f g = rw (d, e, f, g)

  -- what the rules of a payment's records know
  pub paying : (s : State) (repeats : Bool) (l : Option Bool) (k : Codes) (c : Context) → l ≡ payer_in book s.header r → k ≡ detail_codes book (is_some l) r
      → c ≡ context_of s repeats (unwrap_or l false) k → c ≡ paying_context book s repeats r
  unfolding paying_context
  paying s repeats l k c p q h = h ∙ rw (q, p)

module _ (book : Contents) (n : ℕ) (r : Record) where
  -- the state after a header
  abbrev zero_amount : Amount
  zero_amount = record { high = 0; low = 0 }

  abbrev headed : Option Day → Codes → Bool → Header → Context
  headed today k repeats h =
      record { repeats = repeats; reporter = false; codes = k; symbol = h.symbol; serial = h.serial; month = h.month; payments = 0; total = zero_amount; today = today }

  pub batch_opened : (today : Option Day) (repeats crowded : Bool) (h : Header) (f : Checked Finding) (o : Open) → h ≡ head book today crowded n r
      → (k : Codes) → k ≡ location_only (is_some h.payer)
      → f ≡ after sound (findings (headed today k repeats h) n r (rules_for h.letter header)) → o ≡ opened n (headed today k repeats h) zero_amount
      → record { finding = f; header = h; payment = o; payments = 0; total = zero_amount; accounts = 0 } ≡ opening book today repeats crowded n r
  unfolding opening head split
  batch_opened today repeats crowded h f o e k c d q = rw (d, q, c, e)

  -- what the header says
  pub head_read : (c : Code) (l : Letter) (payer : Option Bool) (symbol : List ℕ) (serial : ℕ) (month : Option Month) (a : Amount) (crowded : Bool) (today : Option Day) → c ≡ code_of r → l ≡ letter_in c → payer ≡ location book (held r agency_location_code)
      → symbol ≡ held r check_symbol_number → serial ≡ first_serial r → month ≡ month_in (held r check_accounting_month_and_year) → a ≡ split (cents (held r summary_total_amount))
      → record { number = n; letter = l; payer = payer; symbol = symbol; serial = serial; month = month; amount = a; crowded = crowded; today = today } ≡ head book today crowded n r
  unfolding head
  head_read c l payer symbol serial month a crowded today p q u v w m x = rw (x, m, w, v, u, q, p)

  -- the state after a detail and a DT
  module _ (s : State) where
    pub detail_taken : (repeats : Bool) (c : Context) (g f : Checked Finding) (a t : Amount) (o : Open) → c ≡ paying_context book s repeats r
        → g ≡ after s.finding (ended s.payment) → f ≡ after g (findings c n r (rules_for s.header.letter detail))
        → a ≡ split (cents (held r amount)) → o ≡ opened n c a → t ≡ split (worth s.total + worth a)
        → record { finding = f; header = s.header; payment = o; payments = s.payments + 1; total = t; accounts = s.accounts } ≡ detailed book s n r repeats
    unfolding detailed
    detail_taken repeats c g f a t o q u v w x y = rw (y, x, w, v, u, q, worth_split)

  module _ (s z : State) where
    pub account_taken : (f : Checked Finding) (l : Option Bool) (k : Codes) (c : Context) (a : Amount) (o : Open) → l ≡ betc book r → k ≡ betc_only (is_some l) → c ≡ with_codes s.payment.context k
        → f ≡ after s.finding (findings c n r (rules_for N account)) → a ≡ split (cents (held r account_amount)) → o ≡ with_account s.payment (unwrap_or l false) (worth a)
        → z ≡ knowing s f o (s.accounts + 1) → z ≡ accounted book s n r
    unfolding accounted account_context
    account_taken f l k c a o p q u e d w h = h ∙ rw (w, e, u, q, p, d, worth_split)

    -- the step of the code that is known
    pub stepped : (c d : Code) (repeats : Bool) → c ≡ code_of r → c ≡ d → z ≡ step_of book d s n r repeats → z ≡ step_of book (code_of r) s n r repeats
    stepped c d repeats e k h = h ∙ ap (λ (x : Code). step_of book x s n r repeats) (sym k ∙ e)

-- what the steps of the walk are worked out by
pub ruleset walks = (chain, reads, stepped)
