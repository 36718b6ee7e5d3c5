-- Room for one record more: nothing that the walk counts or adds leaves its word.
-- Assumes nothing.
use Rattle.std.specs.Prelude.{Option}
use mathlib.Core.Path.{◌≡◌, refl}
use mathlib.Core.Bool.{Bool, true, false}
use mathlib.Core.List.{List}
use Prim.Native.Nat.{ℕ, ◌+◌, ◌^◌, ◌<◌, ◌≤◌}
use native.Mathlib.Omega.{arith}
use lib.ListN.{length}
use Rattle.record.specs.declared.Field.{Field}
use Rattle.record.specs.Choice.{choose}
use Rattle.record.specs.Fields.{check_first_serial_number}
use Rattle.page.specs.CodePage.{shown}
use Rattle.record.specs.Value.{Has, held}
use Rattle.record.specs.Tests.{digits}
use Rattle.record.specs.Numeral.{numeral}
use Rattle.record.proofs.Held.{held_length}
use Rattle.record.proofs.Numbers.{numeral_below}
use Rattle.money.specs.declared.Amount.{Amount}
use Rattle.money.specs.Money.{worth, split, cents, Whole, Fit}
use Rattle.money.proofs.Amounts.{worth_split, split_whole, cents_below}
use Rattle.calendar.specs.declared.Day.{Day}
use Rattle.book.specs.Book.{Contents}
use Rattle.rules.specs.declared.Codes.{Codes}
use Rattle.rules.specs.declared.Context.{Context}
use Rattle.rules.specs.Rules.{Kept}
use Rattle.batch.specs.declared.payment.Open.{Open}
use Rattle.batch.specs.declared.walk.Header.{Header}
use Rattle.batch.specs.declared.walk.State.{State}
use Rattle.batch.specs.Batch.{first_serial, with_codes}
use Rattle.batch.specs.Walk.{Small, Own, Room, context_of, paying_context, head}

-- an amount that was read from a field of twenty bytes
pub small_cents : (xs : List ℕ) → length xs ≤ 20 → Small 1 (split (cents xs))
small_cents xs n = record { whole = split_whole (cents xs); worth = rw (worth_split (cents xs)) (omega (arith, cents_below xs n)) }

pub small_read : (a : Amount) (ascii : Bool) (rec : List ℕ) (f : Field) → Has rec f → f.width ≡ 20 → a ≡ split (cents (held (shown ascii rec) f)) → Small 1 a
small_read a ascii rec f h w e = rw e (small_cents (held (shown ascii rec) f) (omega (arith, held_length ascii rec f h, w)))

-- an amount so far, and one more
pub fit_small : (n : ℕ) (a b : Amount) → n ≤ 65535 → Small n a → Small 1 b → Fit a b
fit_small n a b h s t = record { left = s.whole; right = t.whole; room = omega (arith, s.worth, t.worth) }

pub small_plus : (n m : ℕ) (a : Amount) → m < 100000000000000000000 → Small n a → Small (n + 1) (split (worth a + m))
small_plus n m a h s = record { whole = split_whole (worth a + m); worth = rw (worth_split (worth a + m)) (omega (arith, s.worth)) }

pub small_later : (n m : ℕ) (a : Amount) → n ≤ m → Small n a → Small m a
small_later n m a h s = record { whole = s.whole; worth = omega (arith, s.worth) }

-- room for a later record
pub own_later : (n m : ℕ) (o : Open) → n ≤ m → Own n o → Own m o
own_later n m o h s =
    record {
      context = s.context;
      amount = s.amount;
      accounts = omega (arith, s.accounts);
      positive = s.positive;
      negative = s.negative;
      sum = omega (arith, s.sum);
      procurements = omega (arith, s.procurements);
      procured = small_later n m o.procured h s.procured;
    }

-- what a header's serial number can be
pub serial_below : (ascii : Bool) (rec : List ℕ) → length rec ≡ 850 → first_serial (shown ascii rec) < 100000000
unfolding first_serial choose
serial_below ascii rec e = go (digits (held (shown ascii rec) check_first_serial_number)) refl
  where
    go : (b : Bool) → digits (held (shown ascii rec) check_first_serial_number) ≡ b → choose (digits (held (shown ascii rec) check_first_serial_number)) (numeral (held (shown ascii rec) check_first_serial_number)) 0 < 100000000
    go true d =
        let n : length (held (shown ascii rec) check_first_serial_number) ≡ 8 = held_length ascii rec check_first_serial_number (omega arith, omega arith) in
        rw d (omega (arith, rw n at (numeral_below (held (shown ascii rec) check_first_serial_number) d)))
    go false d = rw d (omega arith)

-- what the header's rules know
pub kept_header : (book : Contents) (today : Option Day) (n : ℕ) (ascii : Bool) (rec : List ℕ) (h : Header) (repeats crowded : Bool) (codes : Codes) (k : ℕ) → k < 65536 → length rec ≡ 850 → h ≡ head book today crowded n (shown ascii rec)
    → Kept (record { repeats = repeats; reporter = false; codes = codes; symbol = h.symbol; serial = h.serial; month = h.month; payments = k; total = record { high = 0; low = 0 }; today = today })
unfolding head Whole
kept_header book today n ascii rec h repeats crowded codes k few l e =
    record { serial = rw e (serial_below ascii rec l); payments = few; total = omega arith }

module _ (n : ℕ) (s : State) (r : Room n s) (h : n ≤ 65535) where
  pub own_room : Own 65535 s.payment
  own_room = own_later n 65535 s.payment h r.payment

  pub numbered : 1 ≤ n
  numbered = omega (arith, r.payments)

  pub kept_open : Kept s.payment.context
  kept_open = r.payment.context

  pub kept_context : (c : Context) (repeats reporter : Bool) (codes : Codes) → c ≡ context_of s repeats reporter codes → Kept c
  unfolding context_of
  kept_context c repeats reporter codes e = rw e (record { serial = r.serial; payments = omega (arith, r.payments); total = r.total.whole })

  pub kept_paying : (book : Contents) (c : Context) (repeats : Bool) (rec : List ℕ) → c ≡ paying_context book s repeats rec → Kept c
  unfolding paying_context
  kept_paying book c repeats rec e = kept_context c repeats _ _ e

  pub kept_codes : (c : Context) (codes : Codes) → c ≡ with_codes s.payment.context codes → Kept c
  unfolding with_codes
  kept_codes c codes e = rw e (record { serial = kept_open.serial; payments = kept_open.payments; total = kept_open.total })

  pub payments_room : s.payments + 1 < 2 ^ 64
  payments_room = omega (arith, r.payments)

  pub accounts_room : s.accounts + 1 < 2 ^ 64
  accounts_room = omega (arith, r.accounts)

  pub total_room : (a : Amount) → Small 1 a → Fit s.total a
  total_room a t = fit_small n s.total a h r.total t

  pub total_whole : Whole s.total
  total_whole = r.total.whole

  pub declared_whole : Whole s.header.amount
  declared_whole = r.declared

pub ruleset room = (own_room, numbered, kept_open, kept_context, kept_paying, kept_codes, payments_room, accounts_room, total_room, total_whole, declared_whole)

module _ (o : Open) (r : Own 65535 o) where
  pub sum_room : Fit o.sum.positive o.sum.negative
  sum_room = record { left = r.positive; right = r.negative; room = omega (arith, r.sum) }

  pub positive_room : (a : Amount) → Small 1 a → Fit o.sum.positive a
  positive_room a t = record { left = r.positive; right = t.whole; room = omega (arith, r.sum, t.worth) }

  pub negative_room : (a : Amount) → Small 1 a → Fit o.sum.negative a
  negative_room a t = record { left = r.negative; right = t.whole; room = omega (arith, r.sum, t.worth) }

  pub amount_room : Fit o.amount o.sum.negative
  amount_room = record { left = r.amount.whole; right = r.negative; room = omega (arith, r.sum, r.amount.worth) }
