-- How many records stand before a place.
-- Assumes nothing.
use mathlib.Core.Path.{◌≡◌, refl}
use mathlib.Core.List.{List, [], ◌∷◌, ◌++◌}
use Prim.Native.Nat.{◌+◌, ◌≤◌}
use native.Mathlib.Omega.{arith}
use lib.ListN.{length, length-append}
use Rattle.nesting.specs.Division.{Record, Payment, Batch, payments_onto, batches_onto, batch_lines, records_before}

-- the records of payments and of batches with what follows: as many as both have
payments_size : (ps : List Payment) (rs : List Record) → length (payments_onto ps rs) ≡ length (payments_onto ps []) + length rs
payments_size [] rs = omega arith
payments_size (p ∷ ps) rs = simp length-append (omega (arith, payments_size ps rs))

pub batches_size : (bs : List Batch) (rs : List Record) → length (batches_onto bs rs) ≡ length (batches_onto bs []) + length rs
batches_size [] rs = omega arith
batches_size (b ∷ bs) rs =
    omega (arith, payments_size b.payments (b.trailer ∷ batches_onto bs rs), payments_size b.payments (b.trailer ∷ batches_onto bs []), batches_size bs rs)

-- batches behind batches
batches_join : (bs cs : List Batch) (rs : List Record) → batches_onto (bs ++ cs) rs ≡ batches_onto bs (batches_onto cs rs)
batches_join [] cs rs = refl
batches_join (b ∷ bs) cs rs = rw (batches_join bs cs rs)

-- one batch more before a place
pub place_next : (earlier : List Batch) (b : Batch) → records_before (earlier ++ b ∷ []) ≡ records_before earlier + length (batch_lines b)
place_next earlier b = rw (batches_join earlier (b ∷ []) []) (omega (arith, batches_size earlier (batch_lines b)))

-- every batch has a record
pub batches_few : (bs : List Batch) → length bs ≤ length (batches_onto bs [])
batches_few [] = omega arith
batches_few (b ∷ bs) = omega (arith, payments_size b.payments (b.trailer ∷ batches_onto bs []), batches_few bs)
