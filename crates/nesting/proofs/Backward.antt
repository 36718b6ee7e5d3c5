-- What may follow where the reader stands begins with a record that may come next, and goes on with what may follow it.
-- Assumes nothing.
use mathlib.Core.Path.{◌≡◌, refl, sym, ◌∙◌, ap, subst}
use mathlib.Core.Logic.{◌⊎◌, inl, inr}
use mathlib.Core.Bool.{Bool, true, false, true≢false}
use mathlib.Core.List.{List, [], ◌∷◌}
use Prim.Native.Nat.{ℕ}
use native.Mathlib.Omega.{arith}
use Rattle.record.specs.declared.codes.Letter.{Letter}
use Rattle.record.specs.declared.codes.Code.{Code}
use Rattle.record.specs.declared.codes.Code.TheVariants.{FileHeader, Detail, Party, Account, Procurement, BatchTrailer, FileTrailer}
use Rattle.record.specs.declared.codes.Code.TheVariants as code
use Rattle.record.specs.Fields.{payment_id}
use Rattle.record.specs.Value.{held}
use Rattle.record.specs.Codes.{code_bytes, code_of}
use Rattle.nesting.specs.declared.reader.Place.{Place}
use Rattle.nesting.specs.declared.reader.Place.TheVariants.{Start, FileOpen, BatchOpen, PaymentOpen, BatchClosed, FileClosed}
use Rattle.nesting.specs.declared.reader.State.{State}
use Rattle.nesting.specs.Division.{Record, All, IsCheck, NoCheck, batch_code, Payment, Batch, payments_onto, batches_onto, LegalPayment}
use Rattle.nesting.specs.Reader.{is_check, moved, in_batch, in_payment, taken, next, after}
use Rattle.nesting.proofs.Coding.{of_bytes, lettered, Beside, beside}
use Rattle.nesting.proofs.Rest.{Tail, Batched, Unopened, RestAt, Rest, at}
use Rattle.nesting.proofs.Steps.{Complete, Moves}
use Rattle.nesting.proofs.Steps.Moves.{opens_file, first_batch, next_batch, first_payment, next_payment, party, account, procurement, closes_batch, closes_file}
use Rattle.nesting.proofs.Forward.{after_is}

-- the record that comes next, and what follows it
pub record Turned (s : State) (B P : ℕ) (rs : List Record) : Type 0 where
  pub first : Record
  pub rest : List Record
  pub whole : first ∷ rest ≡ rs
  pub moves : Moves s first
  pub left : Rest (after s first) B P rest

-- a list is empty or begins with a member
data Shape {A : Type 0} (xs : List A) : Type 0 where
  empty : xs ≡ [] → Shape xs
  more : (y : A) (ys : List A) → xs ≡ y ∷ ys → Shape xs

shape : {A : Type 0} (xs : List A) → Shape xs
shape [] = empty refl
shape (x ∷ xs) = more x xs refl

is_true : (t : Bool) → (t ≡ false → ⊥) → t ≡ true
is_true true h = refl
is_true false h = absurd (h refl)

same_kind : (t u : Bool) (r : Record) → Beside t r → Beside u r → t ≡ u
same_kind true true r h k = refl
same_kind true false r h k = absurd (k h)
same_kind false true r h k = absurd (h k)
same_kind false false r h k = refl

kinds : (bs : List Batch) → All IsCheck bs ⊎ All NoCheck bs → (t : Bool) × All (λ (c : Batch). Beside t c.header) bs
kinds bs (inl h) = (true, h)
kinds bs (inr h) = (false, h)

module _ (s : State) (B P : ℕ) (rs : List Record) where
  -- a record of a known code before what follows it
  turned : (c : Code) (q : Place) (r : Record) (rest : List Record) → r ∷ rest ≡ rs → code_of r ≡ c → (next s c (held r payment_id)).place ≡ q → Moves s r
      → RestAt q (next s c (held r payment_id)) B P rest → Turned s B P rs
  turned c q r rest w k e m h =
      record { first = r; rest = rest; whole = w; moves = m; left = rw (after_is s r c k) (at (next s c (held r payment_id)) B P rest q e h) }

  file_turn : s.place ≡ Start → Unopened s.batches s.payments B P rs → Turned s B P rs
  unfolding code_bytes next moved
  file_turn e w =
      let d = w.division in
      let g = w.divides.legal in
      let k = of_bytes FileHeader d.header g.header in
      let o = kinds d.batches g.one_kind in
      turned FileHeader FileOpen d.header (batches_onto d.batches (d.trailer ∷ [])) w.divides.whole k refl (opens_file k e)
      (record {
        check = o.0;
        tail =
            record {
              batches = d.batches;
              trailer = d.trailer;
              whole = refl;
              legal = g.batches;
              kind = o.1;
              end = g.trailer;
              counted = w.counted;
              paid = w.paid;
            };
        some = g.some_batches;
      })

  end_turn : s.place ≡ BatchClosed → (t : Bool) (w : Tail t s.batches s.payments B P rs) → w.batches ≡ [] → Turned s B P rs
  unfolding code_bytes next moved
  end_turn e t w n =
      let k = of_bytes FileTrailer w.trailer w.end in
      turned FileTrailer FileClosed w.trailer [] (rw n at w.whole) k refl (closes_file k e)
      (record { whole = refl; counted = omega (arith, rw n at w.counted); paid = omega (arith, rw n at w.paid) })

  batch_turn : (t : Bool) (w : Tail t s.batches s.payments B P rs) (c : Batch) (cs : List Batch) → w.batches ≡ c ∷ cs
      → ((l : Letter) → code_of c.header ≡ code.Batch l → t ≡ is_check l → Moves s c.header) → Turned s B P rs
  unfolding code_bytes next in_batch
  batch_turn t w c cs n m =
      let g = rw n at w.legal in
      let l = lettered g.0.letter g.0.listed in
      let k = of_bytes (code.Batch l.0) c.header (g.0.header ∙ ap batch_code l.1) in
      let u = rw n at w.kind in
      let i = same_kind t (is_check l.0) c.header u.0 (beside l.0 c.header k) in
      turned (code.Batch l.0) BatchOpen c.header (payments_onto c.payments (c.trailer ∷ batches_onto cs (w.trailer ∷ []))) (rw n at w.whole) k refl (m l.0 k i)
      (record {
        batched =
            record {
              payments = c.payments;
              trailer = c.trailer;
              rest = batches_onto cs (w.trailer ∷ []);
              whole = refl;
              legal = subst (λ (x : ℕ). All (LegalPayment x) c.payments) l.1 g.0.payments;
              end = g.0.trailer;
              tail =
                  record {
                    batches = cs;
                    trailer = w.trailer;
                    whole = refl;
                    legal = g.1;
                    kind = rw (← i) u.1;
                    end = w.end;
                    counted = omega (arith, rw n at w.counted);
                    paid = omega (arith, rw n at w.paid);
                  };
            };
        some = g.0.some_payments;
      })

  payment_turn : (w : Batched s.letter s.batches s.payments B P rs) (q : Payment) (qs : List Payment) → w.payments ≡ q ∷ qs
      → (code_of q.detail ≡ Detail s.letter → Moves s q.detail) → Turned s B P rs
  unfolding code_bytes next in_payment
  payment_turn w q qs n m =
      let g = rw n at w.legal in
      let k = of_bytes (Detail s.letter) q.detail g.0.detail in
      turned (Detail s.letter) PaymentOpen q.detail _ (rw n at w.whole) k refl (m k)
      (record {
        dxs = q.parties;
        dts = q.accounts;
        dps = q.procurements;
        rest = payments_onto qs (w.trailer ∷ w.rest);
        whole = refl;
        own_dxs = g.0.parties;
        own_dts = g.0.accounts;
        own_dps = g.0.procurements;
        some = λ e. g.0.some_parties;
        first_dxs = λ e. (refl, refl);
        first_dts = λ e. refl;
        few_dts = g.0.few_accounts;
        few_dps = g.0.few_procurements;
        batched =
            record {
              payments = qs;
              trailer = w.trailer;
              rest = w.rest;
              whole = refl;
              legal = g.1;
              end = w.end;
              tail = subst (λ (x : ℕ). Tail (is_check s.letter) s.batches x B P w.rest) (rw n (omega arith)) w.tail;
            };
      })

  -- the payment has a DX where none is left to come
  has_party : (w : RestAt PaymentOpen s B P rs) → w.dxs ≡ [] → s.party ≡ true
  has_party w n = is_true s.party (λ f. omega (arith, rw n at (w.some f)))

  party_turn : s.place ≡ PaymentOpen → (w : RestAt PaymentOpen s B P rs) (x : Record) (xs : List Record) → w.dxs ≡ x ∷ xs → Turned s B P rs
  unfolding code_bytes next taken
  party_turn e w x xs n =
      let o = rw n at w.own_dxs in
      let k = of_bytes Party x o.0.0 in
      let z = w.first_dxs (rw n (omega arith)) in
      turned Party PaymentOpen x _ (rw n at w.whole) k e (party k e z.0 z.1 o.0.1)
      (record {
        dxs = xs;
        dts = w.dts;
        dps = w.dps;
        rest = w.rest;
        whole = refl;
        own_dxs = o.1;
        own_dts = w.own_dts;
        own_dps = w.own_dps;
        some = λ f. absurd (true≢false f);
        first_dxs = λ f. z;
        first_dts = w.first_dts;
        few_dts = w.few_dts;
        few_dps = w.few_dps;
        batched = w.batched;
      })

  account_turn : s.place ≡ PaymentOpen → (w : RestAt PaymentOpen s B P rs) (x : Record) (xs : List Record) → w.dxs ≡ [] → w.dts ≡ x ∷ xs → Turned s B P rs
  unfolding code_bytes next taken
  account_turn e w x xs d n =
      let o = rw n at w.own_dts in
      let k = of_bytes Account x o.0.0 in
      let z = w.first_dts (rw n (omega arith)) in
      let f = rw n at w.few_dts in
      turned Account PaymentOpen x _ (rw (d, n) at w.whole) k e (account k (record { place = e; party = has_party w d }) z (omega arith) o.0.1)
      (record {
        dxs = [];
        dts = xs;
        dps = w.dps;
        rest = w.rest;
        whole = refl;
        own_dxs = tt;
        own_dts = o.1;
        own_dps = w.own_dps;
        some = λ g. absurd (true≢false (sym (has_party w d) ∙ g));
        first_dxs = λ g. absurd (omega arith);
        first_dts = λ g. z;
        few_dts = omega arith;
        few_dps = w.few_dps;
        batched = w.batched;
      })

  procurement_turn : s.place ≡ PaymentOpen → (w : RestAt PaymentOpen s B P rs) (x : Record) (xs : List Record) → w.dxs ≡ [] → w.dts ≡ [] → w.dps ≡ x ∷ xs
      → Turned s B P rs
  unfolding code_bytes next taken
  procurement_turn e w x xs d t n =
      let o = rw n at w.own_dps in
      let k = of_bytes Procurement x o.0.0 in
      let f = rw n at w.few_dps in
      turned Procurement PaymentOpen x _ (rw (d, t, n) at w.whole) k e (procurement k (record { place = e; party = has_party w d }) (omega arith) o.0.1)
      (record {
        dxs = [];
        dts = [];
        dps = xs;
        rest = w.rest;
        whole = refl;
        own_dxs = tt;
        own_dts = tt;
        own_dps = o.1;
        some = λ g. absurd (true≢false (sym (has_party w d) ∙ g));
        first_dxs = λ g. absurd (omega arith);
        first_dts = λ g. absurd (omega arith);
        few_dts = omega arith;
        few_dps = omega arith;
        batched = w.batched;
      })

  close_turn : Complete s → (w : Batched s.letter s.batches s.payments B P rs) → w.payments ≡ [] → Turned s B P rs
  unfolding code_bytes next moved
  close_turn c w n =
      let k = of_bytes BatchTrailer w.trailer w.end in
      turned BatchTrailer BatchClosed w.trailer w.rest (rw n at w.whole) k refl (closes_batch k c)
      (subst (λ (x : ℕ). Tail (is_check s.letter) s.batches x B P w.rest) (rw n (omega arith)) w.tail)

  spent_turn : Complete s → (w : Batched s.letter s.batches s.payments B P rs) → Turned s B P rs
  spent_turn c w = go (shape w.payments)
    where
      go : Shape w.payments → Turned s B P rs
      go (empty n) = close_turn c w n
      go (more q qs n) = payment_turn w q qs n (λ k. next_payment k c)

  paying_turn : s.place ≡ PaymentOpen → RestAt PaymentOpen s B P rs → Turned s B P rs
  paying_turn e w = go (shape w.dxs) (shape w.dts) (shape w.dps)
    where
      go : Shape w.dxs → Shape w.dts → Shape w.dps → Turned s B P rs
      go (more x xs n) t p = party_turn e w x xs n
      go (empty d) (more x xs n) p = account_turn e w x xs d n
      go (empty d) (empty t) (more x xs n) = procurement_turn e w x xs d t n
      go (empty d) (empty t) (empty p) =
          spent_turn (record { place = e; party = has_party w d })
          (subst (λ (x : List Record). Batched s.letter s.batches s.payments B P x) (rw (d, t, p) at w.whole) w.batched)

  -- the next record, unless the file is closed
  pub turn : Rest s B P rs → (s.place ≡ FileClosed) ⊎ Turned s B P rs
  turn h = go s.place refl h.left
    where
      opened : s.place ≡ FileOpen → (w : RestAt FileOpen s B P rs) → Shape w.tail.batches → Turned s B P rs
      opened e w (empty n) = absurd (omega (arith, rw n at w.some))
      opened e w (more c cs n) = batch_turn w.check w.tail c cs n (λ l k i. first_batch l k e)

      begun : s.place ≡ BatchOpen → (w : RestAt BatchOpen s B P rs) → Shape w.batched.payments → Turned s B P rs
      begun e w (empty n) = absurd (omega (arith, rw n at w.some))
      begun e w (more q qs n) = payment_turn w.batched q qs n (λ k. first_payment k e)

      closed : s.place ≡ BatchClosed → (w : RestAt BatchClosed s B P rs) → Shape w.batches → Turned s B P rs
      closed e w (empty n) = end_turn e _ w n
      closed e w (more c cs n) = batch_turn _ w c cs n (λ l k i. next_batch l k e i)

      go : (q : Place) → s.place ≡ q → RestAt q s B P rs → (s.place ≡ FileClosed) ⊎ Turned s B P rs
      go Start e w = inr (file_turn e w)
      go FileOpen e w = inr (opened e w (shape w.tail.batches))
      go BatchOpen e w = inr (begun e w (shape w.batched.payments))
      go PaymentOpen e w = inr (paying_turn e w)
      go BatchClosed e w = inr (closed e w (shape w.batches))
      go FileClosed e w = inl e
