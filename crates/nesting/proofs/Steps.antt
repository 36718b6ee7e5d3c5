-- The moves of the reader, said once: a record may come next exactly where one of these moves leads.
-- Assumes nothing.
use mathlib.Core.Path.{◌≡◌, refl, sym, ◌∙◌, ap}
use mathlib.Core.Logic.{◌⊎◌, inl, inr}
use mathlib.Core.Bool.{Bool, true, false, not, true≢false}
use mathlib.Core.List.{List}
use Prim.Native.Nat.{ℕ, ◌<◌}
use lib.Dec.{eqb}
use borrow.Author.Tests.{eqb-true, eq-eqb, ltb-true, lt-ltb}
use Rattle.record.specs.declared.codes.Letter.{Letter}
use Rattle.record.specs.declared.codes.Code.{Code}
use Rattle.record.specs.declared.codes.Code.TheVariants.{FileHeader, Batch, Detail, Party, Account, Procurement, BatchTrailer, FileTrailer, Unknown}
use Rattle.record.specs.Choice.{◌and◌, ◌or◌, choose}
use Rattle.record.specs.Fields.{payment_id}
use Rattle.record.specs.Value.{held}
use Rattle.record.specs.Codes.{code_of, letter_byte}
use Rattle.record.proofs.Chain.{and_left, and_right}
use Rattle.record.proofs.Same.{alike_equal, alike_self}
use Rattle.nesting.specs.declared.reader.Place.{Place}
use Rattle.nesting.specs.declared.reader.Place.TheVariants.{Start, FileOpen, BatchOpen, PaymentOpen, BatchClosed}
use Rattle.nesting.specs.declared.reader.State.{State}
use Rattle.nesting.specs.Division.{Record}
use Rattle.nesting.specs.Reader.{place_number, is_at, same_letter, is_check, besides, complete, owns, opens_batch, opens_payment, takes_party, takes_account, takes_procurement, fits, follows}
use Rattle.nesting.proofs.Coding.{at_place, same_letter_holds}

-- a payment that may end is open
pub record Complete (s : State) : Type 0 where
  pub place : s.place ≡ PaymentOpen
  pub party : s.party ≡ true

pub data Moves (s : State) (r : Record) : Type 0 where
  opens_file : code_of r ≡ FileHeader → s.place ≡ Start → Moves s r
  first_batch : (l : Letter) → code_of r ≡ Batch l → s.place ≡ FileOpen → Moves s r
  next_batch : (l : Letter) → code_of r ≡ Batch l → s.place ≡ BatchClosed → is_check s.letter ≡ is_check l → Moves s r
  first_payment : code_of r ≡ Detail s.letter → s.place ≡ BatchOpen → Moves s r
  next_payment : code_of r ≡ Detail s.letter → Complete s → Moves s r
  party : code_of r ≡ Party → s.place ≡ PaymentOpen → s.accounts ≡ 0 → s.procurements ≡ 0 → held r payment_id ≡ s.id → Moves s r
  account : code_of r ≡ Account → Complete s → s.procurements ≡ 0 → s.accounts < 100 → held r payment_id ≡ s.id → Moves s r
  procurement : code_of r ≡ Procurement → Complete s → s.procurements < 100 → held r payment_id ≡ s.id → Moves s r
  closes_batch : code_of r ≡ BatchTrailer → Complete s → Moves s r
  closes_file : code_of r ≡ FileTrailer → s.place ≡ BatchClosed → Moves s r

either : (a b : Bool) → (a or b) ≡ true → (a ≡ true) ⊎ (b ≡ true)
unfolding ◌or◌
either true b e = inl refl
either false b e = inr e

is_complete : (s : State) → complete s ≡ true → Complete s
unfolding complete
is_complete s e = record { place = at_place s PaymentOpen (and_left _ _ e); party = and_right (is_at s PaymentOpen) _ e }

is_beside : (l m : Letter) → besides l m ≡ true → is_check l ≡ is_check m
unfolding besides choose
is_beside l m e = go (is_check l) (is_check m) e
  where
    go : (a b : Bool) → choose a b (not b) ≡ true → a ≡ b
    go true b h = sym h
    go false true h = h
    go false false h = refl

is_own : (s : State) (id : List ℕ) → owns s id ≡ true → id ≡ s.id
unfolding owns
is_own s id e = alike_equal id s.id e

-- the inversion of a test
pub move : (s : State) (r : Record) → follows s r ≡ true → Moves s r
unfolding follows fits opens_batch opens_payment takes_party takes_account takes_procurement
move s r e = go (code_of r) refl e
  where
    id : List ℕ
    id = held r payment_id

    batch : (l : Letter) → code_of r ≡ Batch l → (is_at s FileOpen ≡ true) ⊎ ((is_at s BatchClosed and besides s.letter l) ≡ true) → Moves s r
    batch l k (inl a) = first_batch l k (at_place s FileOpen a)
    batch l k (inr a) = next_batch l k (at_place s BatchClosed (and_left _ _ a)) (is_beside s.letter l (and_right (is_at s BatchClosed) _ a))

    payment : code_of r ≡ Detail s.letter → (is_at s BatchOpen ≡ true) ⊎ (complete s ≡ true) → Moves s r
    payment k (inl a) = first_payment k (at_place s BatchOpen a)
    payment k (inr a) = next_payment k (is_complete s a)

    go : (c : Code) → code_of r ≡ c → fits s c id ≡ true → Moves s r
    go FileHeader k f = opens_file k (at_place s Start f)
    go (Batch l) k f = batch l k (either _ _ f)
    go (Detail l) k f =
        payment (k ∙ ap Detail (same_letter_holds l s.letter (and_left _ _ f))) (either _ _ (and_right (same_letter l s.letter) _ f))
    go Party k f =
        let t = and_left (takes_party s) _ f in
        let u = and_right (is_at s PaymentOpen) _ t in
        party k (at_place s PaymentOpen (and_left _ _ t)) (eqb-true _ _ (and_left _ _ u)) (eqb-true _ _ (and_right (eqb s.accounts 0) _ u))
        (is_own s id (and_right (takes_party s) _ f))
    go Account k f =
        let t = and_left (takes_account s) _ f in
        let u = and_right (complete s) _ t in
        account k (is_complete s (and_left _ _ t)) (eqb-true _ _ (and_left _ _ u)) (ltb-true _ _ (and_right (eqb s.procurements 0) _ u))
        (is_own s id (and_right (takes_account s) _ f))
    go Procurement k f =
        let t = and_left (takes_procurement s) _ f in
        procurement k (is_complete s (and_left _ _ t)) (ltb-true _ _ (and_right (complete s) _ t)) (is_own s id (and_right (takes_procurement s) _ f))
    go BatchTrailer k f = closes_batch k (is_complete s f)
    go FileTrailer k f = closes_file k (at_place s BatchClosed f)
    go Unknown k f = absurd (true≢false (sym f))

-- and back
or_right : (a b : Bool) → b ≡ true → (a or b) ≡ true
unfolding ◌or◌
or_right true b e = refl
or_right false b e = e

pub here : (s : State) (p : Place) → s.place ≡ p → is_at s p ≡ true
unfolding is_at
here s p e = eq-eqb (place_number s.place) (place_number p) (ap place_number e)

completed : (s : State) → Complete s → complete s ≡ true
unfolding complete ◌and◌
completed s h = rw (here s PaymentOpen h.place) h.party

own : (s : State) (id : List ℕ) → id ≡ s.id → owns s id ≡ true
unfolding owns
own s id e = rw e (alike_self s.id)

same : (l : Letter) → same_letter l l ≡ true
unfolding same_letter
same l = eq-eqb (letter_byte l) (letter_byte l) refl

may_stand : (l m : Letter) → is_check l ≡ is_check m → besides l m ≡ true
unfolding besides choose
may_stand l m e = go (is_check l) (is_check m) e
  where
    go : (a b : Bool) → a ≡ b → choose a b (not b) ≡ true
    go true b h = sym h
    go false true h = h
    go false false h = refl

pub fitting : (s : State) (r : Record) → Moves s r → follows s r ≡ true
unfolding follows fits opens_batch opens_payment takes_party takes_account takes_procurement ◌and◌ ◌or◌
fitting s r (opens_file k e) = rw k (here s Start e)
fitting s r (first_batch l k e) = rw (k, here s FileOpen e)
fitting s r (next_batch l k e c) = rw k (or_right (is_at s FileOpen) _ (rw (here s BatchClosed e) (may_stand s.letter l c)))
fitting s r (first_payment k e) = rw (k, same s.letter, here s BatchOpen e)
fitting s r (next_payment k c) = rw (k, same s.letter) (or_right (is_at s BatchOpen) _ (completed s c))
fitting s r (party k e a p i) = rw (k, here s PaymentOpen e, eq-eqb _ _ a, eq-eqb _ _ p) (own s _ i)
fitting s r (account k c p a i) = rw (k, completed s c, eq-eqb _ _ p, lt-ltb _ _ a) (own s _ i)
fitting s r (procurement k c p i) = rw (k, completed s c, lt-ltb _ _ p) (own s _ i)
fitting s r (closes_batch k c) = rw k (completed s c)
fitting s r (closes_file k e) = rw k (here s BatchClosed e)
