-- The loop over a batch's records: what is left of them decides, and there is room for each.
-- Assumes nothing.
use Rattle.std.specs.Prelude.{Option}
use mathlib.Core.Path.{◌≡◌, refl, sym, ap, ◌∙◌}
use mathlib.Core.Bool.{Bool, true, false}
use mathlib.Core.List.{List, [], ◌∷◌}
use Prim.Native.Nat.{ℕ, suc, ◌+◌, ◌-◌, ◌*◌, ◌/◌, ◌<◌, ◌≤◌}
use native.Mathlib.Omega.{arith}
use lib.ListN.{length, take, drop, length-take}
use Rattle.record.specs.declared.Field.{Field}
use Rattle.record.specs.declared.codes.Code.{Code}
use Rattle.record.specs.declared.codes.Code.TheVariants as code
use Rattle.record.specs.Fields.{amount, account_amount, procurement_amount}
use Rattle.page.specs.CodePage.{shown}
use Rattle.record.specs.Value.{Has, held}
use Rattle.record.specs.Choice.{choose}
use Rattle.record.specs.Codes.{code_of, is_trailer}
use Rattle.page.proofs.Shown.{shown_length}
use Rattle.record.proofs.Held.{held_length}
use Rattle.money.specs.Money as money
use Rattle.money.specs.Money.{worth, split, cents}
use Rattle.money.proofs.Amounts.{worth_split, split_whole, cents_below}
use Rattle.calendar.specs.declared.Day.{Day}
use Rattle.book.specs.Book.{Contents}
use Rattle.nesting.specs.Division.{Record}
use Rattle.nesting.specs.Records.{cut}
use Rattle.nesting.proofs.Cuts.{bytes_from, from_length, record_from, from_seen, cut_next}
use Rattle.repeats.specs.declared.climb.Climbing.{Climbing}
use Rattle.repeats.specs.Climb.{climbed, climbed_by}
use Rattle.rules.specs.declared.Context.{Context}
use Rattle.rules.specs.Rules.{Kept}
use Rattle.batch.specs.declared.pass.Told.{Told}
use Rattle.batch.specs.declared.pass.Walked.{Walked}
use Rattle.batch.specs.declared.payment.Open.{Open}
use Rattle.batch.specs.declared.walk.State.{State}
use Rattle.batch.specs.Batch.{Judgeable}
use Rattle.batch.specs.Walk.{Own, Room, is_at, opened, with_account, with_procurement, knowing, head, opening, detailed, partied, accounted, procured, trailed, step_of, run, no_climb, to_trailer, taken, walked_over, walk_of}
use Rattle.batch.proofs.Trailers.{first_record}
use Rattle.batch.proofs.Rooms.{small_cents, small_plus, small_later, own_later, serial_below, kept_paying}

-- a payment of which only the detail was read has room
own_opened : (n m : ℕ) (c : Context) (xs : List ℕ) → Kept c → length xs ≤ 20 → Own (n + 1) (opened m c (split (cents xs)))
unfolding opened
own_opened n m c xs k l =
    record {
      context = k;
      amount = small_cents xs l;
      accounts = omega arith;
      positive = split_whole 0;
      negative = split_whole 0;
      sum = rw (worth_split 0) (omega arith);
      procurements = omega arith;
      procured = record { whole = split_whole 0; worth = rw (worth_split 0) (omega arith) };
    }

-- one DT more, and one DP more
own_account : (n m : ℕ) (o : Open) (credit : Bool) → m < 100000000000000000000 → Own n o → Own (n + 1) (with_account o credit m)
unfolding with_account money.entered
own_account n m o true h s =
    record {
      context = s.context;
      amount = s.amount;
      accounts = omega (arith, s.accounts);
      positive = s.positive;
      negative = split_whole _;
      sum = rw worth_split (omega (arith, s.sum));
      procurements = omega (arith, s.procurements);
      procured = small_later n (n + 1) o.procured (omega arith) s.procured;
    }
own_account n m o false h s =
    record {
      context = s.context;
      amount = s.amount;
      accounts = omega (arith, s.accounts);
      positive = split_whole _;
      negative = s.negative;
      sum = rw worth_split (omega (arith, s.sum));
      procurements = omega (arith, s.procurements);
      procured = small_later n (n + 1) o.procured (omega arith) s.procured;
    }

own_procurement : (n m : ℕ) (o : Open) (bare : Bool) → m < 100000000000000000000 → Own n o → Own (n + 1) (with_procurement o bare m)
unfolding with_procurement
own_procurement n m o bare h s =
    record {
      context = s.context;
      amount = s.amount;
      accounts = omega (arith, s.accounts);
      positive = s.positive;
      negative = s.negative;
      sum = omega (arith, s.sum);
      procurements = omega (arith, s.procurements);
      procured = small_plus n m o.procured h s.procured;
    }

-- the record as the rules see it
module _ (ascii : Bool) (rec : List ℕ) (l : length rec ≡ 850) where
  -- its amounts
  wide : (f : Field) → Has rec f → f.width ≡ 20 → length (held (shown ascii rec) f) ≤ 20
  wide f h w = omega (arith, held_length ascii rec f h, w)

  below : (f : Field) → Has rec f → f.width ≡ 20 → cents (held (shown ascii rec) f) < 100000000000000000000
  below f h w = cents_below (held (shown ascii rec) f) (wide f h w)

  -- after a header there is room
  pub room_opening : (book : Contents) (today : Option Day) (repeats crowded : Bool) (n m : ℕ) → Room (n + 1) (opening book today repeats crowded m (shown ascii rec))
  unfolding opening opened head
  room_opening book today repeats crowded n m =
      record {
        payment =
            record {
              context = record { serial = serial_below ascii rec l; payments = omega arith; total = split_whole 0 };
              amount = record { whole = split_whole 0; worth = rw (worth_split 0) (omega arith) };
              accounts = omega arith;
              positive = split_whole 0;
              negative = split_whole 0;
              sum = rw (worth_split 0) (omega arith);
              procurements = omega arith;
              procured = record { whole = split_whole 0; worth = rw (worth_split 0) (omega arith) };
            };
        serial = serial_below ascii rec l;
        declared = split_whole _;
        payments = omega arith;
        total = record { whole = split_whole 0; worth = rw (worth_split 0) (omega arith) };
        accounts = omega arith;
      }

  -- and after each record there is room for the next
  module _ (book : Contents) (n : ℕ) (s : State) (r : Room n s) where
    room_later : Room (n + 1) s
    room_later =
        record {
          payment = own_later n (n + 1) s.payment (omega arith) r.payment;
          serial = r.serial;
          declared = r.declared;
          payments = omega (arith, r.payments);
          total = small_later n (n + 1) s.total (omega arith) r.total;
          accounts = omega (arith, r.accounts);
        }

    pub room_step : (c : Code) (repeats : Bool) → n ≤ 65535 → Room (n + 1) (step_of book c s n (shown ascii rec) repeats)
    unfolding step_of detailed partied accounted procured trailed knowing
    room_step code.FileHeader repeats h = room_later
    room_step (code.Batch m) repeats h = room_later
    room_step (code.Detail m) repeats h =
        record {
          payment = own_opened n n _ _ (kept_paying n s r h book _ repeats _ refl) (wide amount (omega arith, omega arith) refl);
          serial = r.serial;
          declared = r.declared;
          payments = omega (arith, r.payments);
          total = small_plus n _ s.total (below amount (omega arith, omega arith) refl) r.total;
          accounts = omega (arith, r.accounts);
        }
    room_step code.Party repeats h = let q = room_later in record { payment = q.payment; serial = q.serial; declared = q.declared; payments = q.payments; total = q.total; accounts = q.accounts }
    room_step code.Account repeats h =
        let q = room_later in
        record {
          payment = own_account n _ s.payment _ (below account_amount (omega arith, omega arith) refl) r.payment;
          serial = q.serial;
          declared = q.declared;
          payments = q.payments;
          total = q.total;
          accounts = omega (arith, r.accounts);
        }
    room_step code.Procurement repeats h =
        let q = room_later in
        record {
          payment = own_procurement n _ s.payment _ (below procurement_amount (omega arith, omega arith) refl) r.payment;
          serial = q.serial;
          declared = q.declared;
          payments = q.payments;
          total = q.total;
          accounts = q.accounts;
        }
    room_step code.BatchTrailer repeats h = let q = room_later in record { payment = q.payment; serial = q.serial; declared = q.declared; payments = q.payments; total = q.total; accounts = q.accounts }
    room_step code.FileTrailer repeats h = room_later
    room_step code.Unknown repeats h = room_later

-- one record more
pub took : (book : Contents) (n : ℕ) (r : Record) (w : Walked) (s : State) (c : Climbing) (marked : Bool) → s ≡ step_of book (code_of r) w.state n r marked
    → c ≡ climbed r w.climbing → record { state = s; climbing = c; records = w.records + 1 } ≡ taken book n w r marked
unfolding taken
took book n r w s c marked e k = rw (e, k)

-- what is known after no records, and after a first one
module _ (book : Contents) (told : Told) (n : ℕ) (w : Walked) where
  over_none : walked_over book told n w [] ≡ w
  unfolding walked_over run climbed_by
  over_none =
      let e : w.records + 0 ≡ w.records = omega arith in
      λ i. record { state = w.state; climbing = w.climbing; records = e i }

  over_next : (r : Record) (rs : List Record) → walked_over book told n w (r ∷ rs) ≡ walked_over book told (n + 1) (taken book n w r (is_at told.repeat n)) rs
  unfolding walked_over taken run climbed_by
  over_next r rs =
      let t = taken book n w r (is_at told.repeat n) in
      let e : w.records + length (r ∷ rs) ≡ w.records + 1 + length rs = omega arith in
      λ i. record { state = run book (is_at told.repeat) (n + 1) t.state rs; climbing = climbed_by rs t.climbing; records = e i }

-- room for the record n, under a name that is shut: the bounds of amounts are too large for the arithmetic of places
unfoldable pub Roomy : ℕ → State → Type 0
Roomy n s = Room n s

-- the first record among the bytes that were sent
pub first_sent : (ascii : Bool) (sent : List ℕ) (n : ℕ) → Judgeable n (shown ascii sent) → 850 ≤ length sent
first_sent ascii sent n j = omega (arith, first_record j, shown_length ascii sent)

-- so many records have been walked, up to `at`, and no BT behind the header: the walk over the others is the walk over all
pub record Walking (book : Contents) (today : Option Day) (ascii : Bool) (sent : List ℕ) (first : ℕ) (repeats : Bool) (told : Told) (w : Walked) (at : ℕ) : Type 0 where
  pub judgeable : Judgeable first (shown ascii sent)
  pub place : at ≡ w.records * 850
  pub some : 1 ≤ w.records
  pub within : at ≤ length (shown ascii sent)
  pub room : Roomy (first + w.records) w.state
  pub left : walk_of book today repeats told first (shown ascii sent) ≡ walked_over book told (first + w.records) w (to_trailer (cut (first + w.records) (length (shown ascii sent) / 850 - w.records) (drop at (shown ascii sent))))

module _ {book : Contents} {today : (Option Day)} {ascii : Bool} {sent : List ℕ} {first : ℕ} {repeats : Bool} {told : Told} where
  pub begun : {s : State} → Judgeable first (shown ascii sent) → s ≡ opening book today repeats told.crowded first (shown ascii (take 850 sent))
      → Walking book today ascii sent first repeats told (record { state = s; climbing = no_climb; records = 1 }) 850
  unfolding walk_of Roomy
  begun j e =
      let h = first_record j in
      let l : length (take 850 sent) ≡ 850 = simp length-take (omega (arith, first_sent ascii sent first j)) in
      rw e
      (record {
        judgeable = j;
        place = refl;
        some = omega arith;
        within = h;
        room = room_opening ascii (take 850 sent) l book today repeats told.crowded first first;
        left = rw (← from_seen ascii sent first 0);
      })

  module _ {w : Walked} {at : ℕ} (i : Walking book today ascii sent first repeats told w at) where
    -- the record that begins at `at`
    abbrev here : Record
    here = record_from ascii sent at

    pub room_here : Room (first + w.records) w.state
    unfolding Roomy
    room_here = i.room

    module _ (h : at < length sent) where
      -- its end, its number, its bytes
      end_seen : at + 850 ≤ length (shown ascii sent)
      end_seen = omega (arith, i.judgeable.whole, i.place, shown_length ascii sent)

      pub end_within : at + 850 ≤ length sent
      end_within = omega (arith, end_seen, shown_length ascii sent)

      pub end_few : at + 850 ≤ 55705600
      end_few = omega (arith, i.judgeable.few, end_seen)

      pub number_few : first + w.records ≤ 65535
      number_few = omega (arith, i.judgeable.few, end_seen, i.place)

      pub records_few : w.records ≤ 65535
      records_few = omega (arith, number_few)

      pub here_length : length (bytes_from sent at) ≡ 850
      here_length = from_length sent at end_within

      left_next : cut (first + w.records) (length (shown ascii sent) / 850 - w.records) (drop at (shown ascii sent))
          ≡ here ∷ cut (first + w.records + 1) (length (shown ascii sent) / 850 - (w.records + 1)) (drop (at + 850) (shown ascii sent))
      left_next =
          let e : length (shown ascii sent) / 850 - w.records ≡ suc (length (shown ascii sent) / 850 - (w.records + 1)) = omega (arith, end_seen, i.place) in
          rw e (cut_next ascii sent (first + w.records) at (length (shown ascii sent) / 850 - (w.records + 1)))

      -- it is a BT, or none, by its code
      module _ {t : Walked} {k : Code} {x marked : Bool} (g : marked ≡ is_at told.repeat (first + w.records)) (e : t ≡ taken book (first + w.records) w here marked) (o : k ≡ code_of here) (z : x ≡ is_trailer k) where
        pub turned : x ≡ false → Walking book today ascii sent first repeats told t (at + 850)
        unfolding taken to_trailer choose Roomy
        turned f =
            let m : first + (w.records + 1) ≡ first + w.records + 1 = omega arith in
            let p : is_trailer (code_of here) ≡ false = ap is_trailer (sym o) ∙ sym z ∙ f in
            rw (e, g)
            (record {
              judgeable = i.judgeable;
              place = omega (arith, i.place);
              some = omega arith;
              within = end_seen;
              room = rw m (room_step ascii (bytes_from sent at) here_length book (first + w.records) w.state room_here (code_of here) _ number_few);
              left = rw m (i.left ∙ rw (left_next, p) (over_next book told (first + w.records) w here _));
            })

        pub ended : x ≡ true → t ≡ walk_of book today repeats told first (shown ascii sent)
        unfolding to_trailer choose
        ended f =
            let p : is_trailer (code_of here) ≡ true = ap is_trailer (sym o) ∙ sym z ∙ f in
            sym (i.left ∙ rw (left_next, p, e, g) (over_next book told (first + w.records) w here [] ∙ over_none book told _ _))

    pub finished : length (shown ascii sent) ≤ at → w ≡ walk_of book today repeats told first (shown ascii sent)
    unfolding to_trailer cut
    finished h =
        let e : length (shown ascii sent) / 850 - w.records ≡ 0 = omega (arith, i.place) in
        sym (i.left ∙ rw e (over_none book told _ w))
