-- From wherever the reader comes to stand, whole records lead to the end of a legal file.
-- Assumes nothing.
use mathlib.Core.Path.{◌≡◌, refl, sym, ◌∙◌, ap}
use mathlib.Core.Bool.{Bool, true, false, true≢false}
use mathlib.Core.List.{List, [], ◌∷◌, ◌++◌}
use Prim.Native.Nat.{ℕ, ◌<◌}
use native.Mathlib.Omega.{arith}
use lib.ListN.{length, replicate}
use Rattle.record.specs.declared.codes.Letter.TheVariants.{N}
use Rattle.record.specs.declared.codes.Code.{Code}
use Rattle.record.specs.declared.codes.Code.TheVariants.{FileHeader, Batch, Detail, Party, Account, Procurement, BatchTrailer, FileTrailer}
use Rattle.record.specs.Fields.{payment_id}
use Rattle.record.specs.declared.Justification.TheVariants.{Text}
use Rattle.record.specs.Choice.{choose}
use Rattle.record.specs.Correction.{from_first, moved_left, corrected}
use Rattle.record.specs.Value.{held}
use Rattle.record.specs.Codes.{code_bytes}
use Rattle.nesting.specs.declared.reader.Place.{Place}
use Rattle.nesting.specs.declared.reader.Place.TheVariants.{Start, FileOpen, BatchOpen, PaymentOpen, BatchClosed, FileClosed}
use Rattle.nesting.specs.declared.reader.State.{State}
use Rattle.nesting.specs.Division.{Record, All, Coded, Whole}
use Rattle.nesting.specs.Reader.{start, moved, in_batch, in_payment, taken, next, after}
use Rattle.nesting.proofs.Coding.{known, of_bytes, two_bytes}
use Rattle.nesting.proofs.Rest.{Rest, at}
use Rattle.nesting.proofs.Steps.{Complete, Moves}
use Rattle.nesting.proofs.Steps.Moves.{opens_file, first_batch, next_batch, first_payment, next_payment, party, account, procurement, closes_batch, closes_file}
use Rattle.nesting.proofs.Forward.{after_is, prepend}
use Rattle.nesting.proofs.Wholes.{Bytes, id_size, id_bytes, id_moved, all_replicate, made, made_code, made_id, made_whole}

-- an ID of twenty bytes, and no DT or DP before a DX
pub record Kept (id : List ℕ) (party : Bool) (accounts procurements : ℕ) : Type 0 where
  pub size : length id ≡ 20
  pub bytes : Bytes id
  pub moved : corrected Text id ≡ id
  pub none : party ≡ false → (accounts ≡ 0) × (procurements ≡ 0)

abbrev pub Sane : State → Type 0
Sane s = Kept s.id s.party s.accounts s.procurements

zero_bytes : Bytes (replicate 20 0)
zero_bytes = all_replicate (λ b. b < 256) 20 0 (omega arith)

zero_moved : corrected Text (replicate 20 0) ≡ replicate 20 0
unfolding corrected moved_left from_first choose
zero_moved = refl

pub sane_start : Sane start
unfolding start
sane_start = record { size = refl; bytes = zero_bytes; moved = zero_moved; none = λ e. (refl, refl) }

pub sane_after : (s : State) (r : Record) → Whole r → Moves s r → Sane s → Sane (after s r)
unfolding next moved in_batch in_payment taken
sane_after s r w (opens_file k e) h = rw (after_is s r FileHeader k) h
sane_after s r w (first_batch l k e) h = rw (after_is s r (Batch l) k) h
sane_after s r w (next_batch l k e c) h = rw (after_is s r (Batch l) k) h
sane_after s r w (first_payment k e) h = rw (after_is s r (Detail s.letter) k) (record { size = id_size r w; bytes = id_bytes r w; moved = id_moved r; none = λ f. (refl, refl) })
sane_after s r w (next_payment k c) h = rw (after_is s r (Detail s.letter) k) (record { size = id_size r w; bytes = id_bytes r w; moved = id_moved r; none = λ f. (refl, refl) })
sane_after s r w (party k e a c o) h = rw (after_is s r Party k) (record { size = h.size; bytes = h.bytes; moved = h.moved; none = λ f. absurd (true≢false f) })
sane_after s r w (account k c d a o) h = rw (after_is s r Account k) (record { size = h.size; bytes = h.bytes; moved = h.moved; none = λ f. absurd (true≢false (sym c.party ∙ f)) })
sane_after s r w (procurement k c d o) h = rw (after_is s r Procurement k) (record { size = h.size; bytes = h.bytes; moved = h.moved; none = λ f. absurd (true≢false (sym c.party ∙ f)) })
sane_after s r w (closes_batch k c) h = rw (after_is s r BatchTrailer k) h
sane_after s r w (closes_file k e) h = rw (after_is s r FileTrailer k) h

-- whole records can follow these, to the end
pub record Leads (s : State) (rs : List Record) : Type 0 where
  pub more : List Record
  pub whole : All Whole more
  pub batches : ℕ
  pub payments : ℕ
  pub left : Rest s batches payments (rs ++ more)

abbrev pub Live : State → Type 0
Live s = Leads s []

-- one record of a code, made for the purpose, and on from there
module _ (s : State) (c : Code) (id : List ℕ) (k : known c ≡ true) (n : length id ≡ 20) (b : Bytes id) (q : corrected Text id ≡ id) where
  lead : (Coded (code_bytes c) (made (code_bytes c) id) → held (made (code_bytes c) id) payment_id ≡ id → Moves s (made (code_bytes c) id)) → Sane s
      → ((t : State) → Sane t → t ≡ next s c (held (made (code_bytes c) id) payment_id) → Live t) → Live s
  lead m h on =
      let r = made (code_bytes c) id in
      let z = two_bytes c k in
      let d = made_code (code_bytes c) id z.0 n in
      let g = m d (made_id (code_bytes c) id z.0 n q) in
      let w = made_whole (code_bytes c) id z.0 n z.1 b in
      let l = on (after s r) (sane_after s r w g h) (after_is s r c (of_bytes c r d)) in
      record {
        more = r ∷ l.more;
        whole = (w, l.whole);
        batches = l.batches;
        payments = l.payments;
        left = prepend s r l.more l.batches l.payments g l.left;
      }

abbrev zeros : List ℕ
zeros = replicate 20 0

place_of : {s t : State} {p : Place} → s ≡ t → t.place ≡ p → s.place ≡ p
place_of e f = ap (λ (u : State). u.place) e ∙ f

live_ended : (s : State) → s.place ≡ FileClosed → Live s
live_ended s e =
    record {
      more = [];
      whole = tt;
      batches = s.batches;
      payments = s.payments;
      left = at s _ _ [] FileClosed e (record { whole = refl; counted = refl; paid = refl });
    }

live_closed : (s : State) → Sane s → s.place ≡ BatchClosed → Live s
unfolding next moved
live_closed s h e =
    lead s FileTrailer zeros refl refl zero_bytes zero_moved (λ d i. closes_file (of_bytes FileTrailer _ d) e) h (λ t g q. live_ended t (place_of q refl))

live_complete : (s : State) → Sane s → Complete s → Live s
unfolding next moved
live_complete s h c =
    lead s BatchTrailer zeros refl refl zero_bytes zero_moved (λ d i. closes_batch (of_bytes BatchTrailer _ d) c) h (λ t g q. live_closed t g (place_of q refl))

live_payment : (s : State) → Sane s → s.place ≡ PaymentOpen → Live s
unfolding next taken
live_payment s h e = go s.party refl
  where
    go : (b : Bool) → s.party ≡ b → Live s
    go true p = live_complete s h (record { place = e; party = p })
    go false p =
        lead s Party s.id refl h.size h.bytes h.moved (λ d i. party (of_bytes Party _ d) e (h.none p).0 (h.none p).1 i) h
        (λ t g q. live_complete t g (record { place = place_of q e; party = ap (λ (u : State). u.party) q }))

live_batch : (s : State) → Sane s → s.place ≡ BatchOpen → Live s
unfolding next in_payment
live_batch s h e =
    lead s (Detail s.letter) zeros refl refl zero_bytes zero_moved (λ d i. first_payment (of_bytes (Detail s.letter) _ d) e) h
    (λ t g q. live_payment t g (place_of q refl))

live_file : (s : State) → Sane s → s.place ≡ FileOpen → Live s
unfolding next in_batch
live_file s h e =
    lead s (Batch N) zeros refl refl zero_bytes zero_moved (λ d i. first_batch N (of_bytes (Batch N) _ d) e) h (λ t g q. live_batch t g (place_of q refl))

live_start : (s : State) → Sane s → s.place ≡ Start → Live s
unfolding next moved
live_start s h e =
    lead s FileHeader zeros refl refl zero_bytes zero_moved (λ d i. opens_file (of_bytes FileHeader _ d) e) h (λ t g q. live_file t g (place_of q refl))

pub live : (s : State) → Sane s → Live s
live s h = go s.place refl
  where
    go : (p : Place) → s.place ≡ p → Live s
    go Start e = live_start s h e
    go FileOpen e = live_file s h e
    go BatchOpen e = live_batch s h e
    go PaymentOpen e = live_payment s h e
    go BatchClosed e = live_closed s h e
    go FileClosed e = live_ended s e
