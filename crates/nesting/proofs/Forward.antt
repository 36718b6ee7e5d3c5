-- A record that may come next, before what may follow it: together they may follow where the reader stands.
-- Assumes nothing.
use mathlib.Core.Path.{◌≡◌, refl, ap, subst, sym}
use mathlib.Core.Logic.{◌⊎◌, inl, inr}
use mathlib.Core.Bool.{Bool, true, false, true≢false}
use mathlib.Core.List.{List, [], ◌∷◌}
use Prim.Native.Nat.{ℕ, ◌+◌, ◌<◌, ◌≤◌}
use native.Mathlib.Omega.{arith}
use lib.ListN.{length}
use Rattle.record.specs.declared.codes.Letter.{Letter}
use Rattle.record.specs.declared.codes.Code.{Code}
use Rattle.record.specs.declared.codes.Code.TheVariants.{FileHeader, Detail, Party, Account, Procurement, BatchTrailer, FileTrailer}
use Rattle.record.specs.declared.codes.Code.TheVariants as code
use Rattle.record.specs.Fields.{payment_id}
use Rattle.record.specs.Value.{held}
use Rattle.record.specs.Codes.{letter_byte, code_bytes, code_of}
use Rattle.nesting.specs.declared.reader.Place.{Place}
use Rattle.nesting.specs.declared.reader.Place.TheVariants.{Start, FileOpen, BatchOpen, PaymentOpen, BatchClosed, FileClosed}
use Rattle.nesting.specs.declared.reader.State.{State}
use Rattle.nesting.specs.Division.{Record, All, IsCheck, NoCheck, Batch}
use Rattle.nesting.specs.Reader.{is_check, moved, in_batch, in_payment, taken, next, after}
use Rattle.nesting.proofs.Coding.{to_bytes, listed, Beside, beside}
use Rattle.nesting.proofs.Rest.{Tail, Batched, Paying, Begun, Opened, Unopened, Ended, RestAt, Rest, at, from}
use Rattle.nesting.proofs.Steps.{Moves}
use Rattle.nesting.proofs.Steps.Moves.{opens_file, first_batch, next_batch, first_payment, next_payment, party, account, procurement, closes_batch, closes_file}

-- the state after a record of a known code
pub after_is : (s : State) (r : Record) (c : Code) → code_of r ≡ c → after s r ≡ next s c (held r payment_id)
unfolding after
after_is s r c e = rw e

none : {A : Type 0} (xs : List A) → (1 ≤ length xs → ⊥) → xs ≡ []
none [] h = refl
none (x ∷ xs) h = absurd (h (omega arith))

-- all batches are for checks or none is
of_one_kind : (t : Bool) (bs : List Batch) → All (λ (c : Batch). Beside t c.header) bs → All IsCheck bs ⊎ All NoCheck bs
of_one_kind true bs h = inl h
of_one_kind false bs h = inr h

-- what a record opens or closes, with what follows
module _ (r : Record) (rs : List Record) (b p B P : ℕ) where
  closed_file : code_of r ≡ FileTrailer → (t : Bool) → Ended b p B P rs → Tail t b p B P (r ∷ rs)
  unfolding code_bytes
  closed_file k t h =
      record {
        batches = [];
        trailer = r;
        whole = ap (◌∷◌ r) h.whole;
        legal = tt;
        kind = tt;
        end = to_bytes FileTrailer r refl k;
        counted = omega (arith, h.counted);
        paid = omega (arith, h.paid);
      }

  closed_batch : code_of r ≡ BatchTrailer → (l : Letter) → Tail (is_check l) b p B P rs → Batched l b p B P (r ∷ rs)
  unfolding code_bytes
  closed_batch k l h =
      record {
        payments = [];
        trailer = r;
        rest = rs;
        whole = refl;
        legal = tt;
        end = to_bytes BatchTrailer r refl k;
        tail = subst (λ (n : ℕ). Tail (is_check l) b n B P rs) (omega arith) h;
      }

  opened_payment : (l : Letter) → code_of r ≡ Detail l → Paying l (held r payment_id) false 0 0 b (p + 1) B P rs → Begun l b p B P (r ∷ rs)
  unfolding code_bytes
  opened_payment l k h =
      let w = h.batched in
      record {
        batched =
            record {
              payments = record { detail = r; parties = h.dxs; accounts = h.dts; procurements = h.dps } ∷ w.payments;
              trailer = w.trailer;
              rest = w.rest;
              whole = ap (◌∷◌ r) (rw w.whole h.whole);
              legal = (
                record {
                  detail = to_bytes (Detail l) r refl k;
                  parties = h.own_dxs;
                  accounts = h.own_dts;
                  procurements = h.own_dps;
                  some_parties = h.some refl;
                  few_accounts = h.few_dts;
                  few_procurements = h.few_dps;
                },
                w.legal,
              );
              end = w.end;
              tail = subst (λ (n : ℕ). Tail (is_check l) b n B P w.rest) (omega arith) w.tail;
            };
        some = omega arith;
      }

  one_more_batch : (l : Letter) (t : Bool) → t ≡ is_check l → code_of r ≡ code.Batch l → Begun l (b + 1) p B P rs → Tail t b p B P (r ∷ rs)
  unfolding code_bytes
  one_more_batch l t e k h =
      let w = h.batched in
      let u = w.tail in
      record {
        batches = record { header = r; payments = w.payments; trailer = w.trailer } ∷ u.batches;
        trailer = u.trailer;
        whole = ap (◌∷◌ r) (rw u.whole w.whole);
        legal = (
          record {
            letter = letter_byte l;
            listed = listed l;
            header = to_bytes (code.Batch l) r refl k;
            payments = w.legal;
            some_payments = h.some;
            trailer = w.end;
          },
          u.legal,
        );
        kind = (rw e (beside l r k), subst (λ (x : Bool). All (λ (c : Batch). Beside x c.header) u.batches) (sym e) u.kind);
        end = u.end;
        counted = omega (arith, u.counted);
        paid = omega (arith, u.paid);
      }

  opened_batch : (l : Letter) → code_of r ≡ code.Batch l → Begun l (b + 1) p B P rs → Opened b p B P (r ∷ rs)
  unfolding one_more_batch
  opened_batch l k h = record { check = is_check l; tail = one_more_batch l (is_check l) refl k h; some = omega arith }

  opened_file : code_of r ≡ FileHeader → Opened b p B P rs → Unopened b p B P (r ∷ rs)
  unfolding code_bytes
  opened_file k h =
      let w = h.tail in
      record {
        division = record { header = r; batches = w.batches; trailer = w.trailer };
        divides =
            record {
              whole = ap (◌∷◌ r) w.whole;
              legal =
                  record {
                    header = to_bytes FileHeader r refl k;
                    batches = w.legal;
                    some_batches = h.some;
                    one_kind = of_one_kind h.check w.batches w.kind;
                    trailer = w.end;
                  };
            };
        counted = w.counted;
        paid = w.paid;
      }

-- an open payment of which nothing is left
spent : (l : Letter) (id : List ℕ) (a c b p B P : ℕ) (rs : List Record) → Batched l b p B P rs → Paying l id true a c b p B P rs
spent l id a c b p B P rs h =
    record {
      dxs = [];
      dts = [];
      dps = [];
      rest = rs;
      whole = refl;
      own_dxs = tt;
      own_dts = tt;
      own_dps = tt;
      some = λ e. absurd (true≢false e);
      first_dxs = λ n. absurd (omega arith);
      first_dts = λ n. absurd (omega arith);
      few_dts = omega arith;
      few_dps = omega arith;
      batched = h;
    }

-- one more record of the open payment
module _ (r : Record) (rs : List Record) (l : Letter) (id : List ℕ) (b p B P : ℕ) where
  one_more_party : (t : Bool) → code_of r ≡ Party → held r payment_id ≡ id → Paying l id true 0 0 b p B P rs → Paying l id t 0 0 b p B P (r ∷ rs)
  unfolding code_bytes
  one_more_party t k o h =
      record {
        dxs = r ∷ h.dxs;
        dts = h.dts;
        dps = h.dps;
        rest = h.rest;
        whole = ap (◌∷◌ r) h.whole;
        own_dxs = ((to_bytes Party r refl k, o), h.own_dxs);
        own_dts = h.own_dts;
        own_dps = h.own_dps;
        some = λ e. omega arith;
        first_dxs = λ n. (refl, refl);
        first_dts = h.first_dts;
        few_dts = h.few_dts;
        few_dps = h.few_dps;
        batched = h.batched;
      }

  one_more_account : (a : ℕ) → a < 100 → code_of r ≡ Account → held r payment_id ≡ id → Paying l id true (a + 1) 0 b p B P rs
      → Paying l id true a 0 b p B P (r ∷ rs)
  unfolding code_bytes
  one_more_account a m k o h =
      let x = none h.dxs (λ n. omega (arith, (h.first_dxs n).0)) in
      record {
        dxs = [];
        dts = r ∷ h.dts;
        dps = h.dps;
        rest = h.rest;
        whole = ap (◌∷◌ r) (rw x at h.whole);
        own_dxs = tt;
        own_dts = ((to_bytes Account r refl k, o), h.own_dts);
        own_dps = h.own_dps;
        some = λ e. absurd (true≢false e);
        first_dxs = λ n. absurd (omega arith);
        first_dts = λ n. refl;
        few_dts = omega (arith, h.few_dts);
        few_dps = h.few_dps;
        batched = h.batched;
      }

  one_more_procurement : (a c : ℕ) → c < 100 → code_of r ≡ Procurement → held r payment_id ≡ id → Paying l id true a (c + 1) b p B P rs
      → Paying l id true a c b p B P (r ∷ rs)
  unfolding code_bytes
  one_more_procurement a c m k o h =
      let x = none h.dxs (λ n. omega (arith, (h.first_dxs n).1)) in
      let y = none h.dts (λ n. omega (arith, h.first_dts n)) in
      record {
        dxs = [];
        dts = [];
        dps = r ∷ h.dps;
        rest = h.rest;
        whole = ap (◌∷◌ r) (rw (x, y) at h.whole);
        own_dxs = tt;
        own_dts = tt;
        own_dps = ((to_bytes Procurement r refl k, o), h.own_dps);
        some = λ e. absurd (true≢false e);
        first_dxs = λ n. absurd (omega arith);
        first_dts = λ n. absurd (omega arith);
        few_dts = omega arith;
        few_dps = omega (arith, h.few_dps);
        batched = h.batched;
      }

module _ (s : State) (r : Record) (rs : List Record) (B P : ℕ) where
  -- what follows a record of a known code
  arrived : (c : Code) (q : Place) → (next s c (held r payment_id)).place ≡ q → code_of r ≡ c → Rest (after s r) B P rs
      → RestAt q (next s c (held r payment_id)) B P rs
  arrived c q e k h = from (next s c (held r payment_id)) B P rs q e (rw (after_is s r c k) at h)

  pub prepend : Moves s r → Rest (after s r) B P rs → Rest s B P (r ∷ rs)
  unfolding next moved in_batch in_payment taken
  prepend (opens_file k e) h = at s B P _ Start e (opened_file r rs _ _ B P k (arrived FileHeader FileOpen refl k h))
  prepend (first_batch l k e) h = at s B P _ FileOpen e (opened_batch r rs _ _ B P l k (arrived (code.Batch l) BatchOpen refl k h))
  prepend (next_batch l k e c) h =
      at s B P _ BatchClosed e (one_more_batch r rs _ _ B P l (is_check s.letter) c k (arrived (code.Batch l) BatchOpen refl k h))
  prepend (first_payment k e) h =
      at s B P _ BatchOpen e (opened_payment r rs _ _ B P s.letter k (arrived (Detail s.letter) PaymentOpen refl k h))
  prepend (next_payment k c) h =
      at s B P _ PaymentOpen c.place
      (rw c.party
      (spent _ _ _ _ _ _ B P (r ∷ rs) (opened_payment r rs _ _ B P s.letter k (arrived (Detail s.letter) PaymentOpen refl k h)).batched))
  prepend (party k e a c o) h =
      at s B P _ PaymentOpen e (rw (a, c) (one_more_party r rs _ _ _ _ B P s.party k o (rw (a, c) at (arrived Party PaymentOpen e k h))))
  prepend (account k c d a o) h =
      at s B P _ PaymentOpen c.place
      (rw (c.party, d) (one_more_account r rs _ _ _ _ B P s.accounts a k o (rw (c.party, d) at (arrived Account PaymentOpen c.place k h))))
  prepend (procurement k c d o) h =
      at s B P _ PaymentOpen c.place
      (rw c.party
      (one_more_procurement r rs _ _ _ _ B P s.accounts s.procurements d k o (rw c.party at (arrived Procurement PaymentOpen c.place k h))))
  prepend (closes_batch k c) h =
      at s B P _ PaymentOpen c.place
      (rw c.party (spent _ _ _ _ _ _ B P (r ∷ rs) (closed_batch r rs _ _ B P k s.letter (arrived BatchTrailer BatchClosed refl k h))))
  prepend (closes_file k e) h = at s B P _ BatchClosed e (closed_file r rs _ _ B P k _ (arrived FileTrailer FileClosed refl k h))
