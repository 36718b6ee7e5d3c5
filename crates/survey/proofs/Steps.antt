-- A step of the pass: what it comes to, and the room that it needs and leaves.
-- Assumes nothing.
use mathlib.Core.Path.{◌≡◌, refl, sym, ◌∙◌}
use mathlib.Core.Logic.{◌⊎◌, inl, inr}
use mathlib.Core.Bool.{Bool, true, false, true≢false}
use mathlib.Core.List.{List}
use Prim.Native.Nat.{ℕ, ◌+◌, ◌<◌, ◌≤◌}
use native.Mathlib.Omega.{arith}
use Rattle.std.specs.Prelude.{Option, Some, None, is_some}
use lib.ListN.{length}
use Rattle.record.specs.declared.codes.Code.{Code}
use Rattle.record.specs.declared.codes.Code.TheVariants.{FileHeader, Batch, Detail, Party, Account, Procurement, BatchTrailer, FileTrailer, Unknown}
use Rattle.record.specs.Choice.{choose}
use Rattle.record.specs.Fields.{payment_id}
use Rattle.page.specs.CodePage.{shown}
use Rattle.record.specs.Value.{held}
use Rattle.record.specs.Codes.{code_of}
use Rattle.money.specs.declared.Amount.{Amount}
use Rattle.money.specs.Money.{worth, split, Fit}
use Rattle.money.proofs.Amounts.{worth_split, split_whole}
use Rattle.nesting.specs.declared.reader.State.{State}
use Rattle.nesting.specs.Division.{Record}
use Rattle.nesting.specs.Reader.{start, next, after, moved, in_batch, in_payment, taken}
use Rattle.characters.specs.Characters.{clean}
use Rattle.survey.specs.declared.pass.Going.{Going}
use Rattle.survey.specs.Pass.{detail_cents, begun, stepped, Room}
use Rattle.survey.proofs.Details.{cents_small}

-- an amount that is known by its cents
module _ (sum a : Amount) (x : ℕ) (e : a ≡ split x) where
  pub fit_split : Fit sum (split x) → Fit sum a
  fit_split h = rw e h

  pub plus_split : (t : Amount) → t ≡ split (worth sum + worth a) → t ≡ split (worth sum + x)
  plus_split t h = h ∙ rw (e, worth_split)

-- the first low byte up to a record: the known one stays, or else there is none, or it is the record's
pub known_stays : (u : Option ℕ) (b : Bool) (n : ℕ) → (is_some u ≡ true) ⊎ (b ≡ true) → u ≡ choose (is_some u) u (choose b None (Some n))
unfolding choose
known_stays (Some k) b n h = refl
known_stays None b n (inl e) = absurd (true≢false (sym e))
known_stays None b n (inr e) = rw e

pub known_first : (u : Option ℕ) (b : Bool) (n : ℕ) → is_some u ≡ false → b ≡ false → Some n ≡ choose (is_some u) u (choose b None (Some n))
unfolding choose
known_first (Some k) b n e f = absurd (true≢false e)
known_first None b n e f = rw f

-- what a step puts together
pub step_is : (n : ℕ) (r : Record) (g : Going) (k : Code) → k ≡ code_of r → (s : State) → s ≡ next g.state k (held r payment_id)
    → (u : Option ℕ) → u ≡ choose (is_some g.unclean) g.unclean (choose (clean r) None (Some n)) → (t : Amount) → t ≡ split (worth g.total + detail_cents r)
    → record { state = s; unclean = u; total = t } ≡ stepped n r g
unfolding stepped after
step_is n r g k e s p u q t o = rw (p, q, o, e)

-- a record adds one batch or payment at most
counts : (s : State) (c : Code) (id : List ℕ) → ((next s c id).batches ≤ s.batches + 1) × ((next s c id).payments ≤ s.payments + 1)
unfolding next moved in_batch in_payment taken
counts s FileHeader id = (omega arith, omega arith)
counts s (Batch l) id = (omega arith, omega arith)
counts s (Detail l) id = (omega arith, omega arith)
counts s Party id = (omega arith, omega arith)
counts s Account id = (omega arith, omega arith)
counts s Procurement id = (omega arith, omega arith)
counts s BatchTrailer id = (omega arith, omega arith)
counts s FileTrailer id = (omega arith, omega arith)
counts s Unknown id = (omega arith, omega arith)

-- room before the first record
pub room_begun : Room 1 begun
unfolding begun start
room_begun =
    record { batches = omega arith; payments = omega arith; whole = split_whole 0; total = rw (worth_split 0) (omega arith) }

module _ (n : ℕ) (g : Going) (o : Room n g) where
  -- the reader's counts and the sum for one record more
  pub room_batches : n ≤ 65535 → g.state.batches < 65536
  room_batches h = omega (arith, o.batches)

  pub room_payments : n ≤ 65535 → g.state.payments < 65536
  room_payments h = omega (arith, o.payments)

  pub room_fit : n ≤ 65535 → (ascii : Bool) (rec : List ℕ) → 850 ≤ length rec → Fit g.total (split (detail_cents (shown ascii rec)))
  room_fit h ascii rec l =
      record { left = o.whole; right = split_whole _; room = rw worth_split (omega (arith, o.total, cents_small ascii rec l)) }

  -- room after a step
  pub room_next : (r : Record) → detail_cents r < 100000000000000000000 → Room (n + 1) (stepped n r g)
  unfolding stepped after
  room_next r h =
      let c = counts g.state (code_of r) (held r payment_id) in
      record {
        batches = omega (arith, c.0, o.batches);
        payments = omega (arith, c.1, o.payments);
        whole = split_whole _;
        total = rw (worth_split (worth g.total + detail_cents r)) (omega (arith, o.total, h));
      }
