-- Blocks of records: one block's loop, and the first repeat after the last block.
-- Assumes nothing.
use Rattle.std.specs.Prelude.{Some, None}
use mathlib.Core.Path.{◌≡◌, refl, sym, ◌∙◌}
use mathlib.Core.Bool.{Bool, true, false}
use mathlib.Core.Logic.{⊎_elim}
use mathlib.Core.List.{List}
use Prim.Native.Nat.{ℕ, ◌+◌, ◌-◌, ◌*◌, ◌/◌, ◌≤◌, ◌<◌}
use native.Mathlib.Nat.{eq-or-lt_of_le, le_of_suc-le-suc, lt_irrefl}
use native.Mathlib.Numerals.{add-one}
use native.Mathlib.Omega.{arith}
use borrow.Author.Tests.{ltb-true, ltb-false}
use lib.Dec.{ltb}
use lib.ListN.{length}
use Rattle.record.specs.Choice.{◌or◌}
use Rattle.nesting.specs.Records.{cut, record_at}
use Rattle.tables.specs.Tables.{Stands}
use Rattle.repeats.specs.declared.Sort.TheVariants.{Payments}
use Rattle.repeats.specs.declared.blocks.Visited.{Visited}
use Rattle.repeats.specs.Repeats.{repeats}
use Rattle.repeats.specs.Blocks.{lesser, meets, visited, count_visited, table_visited, Blocked}
use Rattle.repeats.proofs.Firsts.{wanted_repeat, seeking_stop, seeking_end}
use Rattle.repeats.proofs.Passes.{is_repeat, seek}
use Rattle.repeats.proofs.Ranges.{meets_join, meets_none, meets_all}
use Rattle.repeats.proofs.Visits.{Filling, filling_none, filling_next, visit_meets, visit_next}

or_middle : (a b c : Bool) → b ≡ true → ((a or b) or c) ≡ true
unfolding ◌or◌
or_middle true b c e = refl
or_middle false b c e = rw e

-- at a place of a block: what the table holds, and no record before the place has the number of an earlier one of the block
pub record InBlock (room first : ℕ) (bytes : List ℕ) (from best place : ℕ) (table : List ℕ) (count next : ℕ) : Type 0 where
  pub filling : Filling room Payments first bytes from best place table count next
  pub clean : (k : ℕ) → from ≤ k → k < place → meets Payments first bytes from (lesser next k) k ≡ false

module _ (first : ℕ) (bytes : List ℕ) (from best : ℕ) where
  pub block_begun : (table : List ℕ) (count : ℕ) → count ≡ 0 → length table ≡ 4096 → from < best → InBlock (length table) first bytes from best from table count best
  block_begun table count z n h = rw z (record { filling = filling_none Payments first bytes from best table n h; clean = λ k l m. absurd (omega arith) })

  module _ (room place : ℕ) (table : List ℕ) (count next : ℕ) (b : InBlock room first bytes from best place table count next) where
    -- a number of the block is an earlier one
    repeated : meets Payments first bytes from (lesser next place) place ≡ true → repeats Payments (cut first place bytes) (record_at first place bytes) ≡ true
    repeated t =
        let f = b.filling.few in
        let d = b.filling.ahead in
        let m = meets_join Payments first bytes 0 from (lesser next place) place (omega arith) (omega arith) in
        let n = meets_join Payments first bytes 0 (lesser next place) place place (omega arith) (omega arith) in
        sym (meets_all Payments first bytes place) ∙ n ∙ rw m (or_middle _ _ _ t)

    module _ (h : place < best) (w : best * 850 ≤ length bytes) (u : length bytes ≤ 65535 * 850) (z : first ≤ 65536) (v : Visited) (q : v ≡ visited Payments first bytes table count place next) where
      standing : Stands first place bytes
      standing = (omega arith, omega arith)

      told : v.known ≡ meets Payments first bytes from (lesser next place) place
      told = visit_meets room Payments first bytes from best place table count next b.filling standing v q

      pub block_hit : v.known ≡ true → Blocked first bytes from best place next
      block_hit t = record {
        within = omega arith;
        ahead = b.filling.ahead;
        clean = b.clean;
        found = λ l. repeated (sym told ∙ t);
      }

      pub block_next : (grown : ℕ) → grown ≡ count_visited Payments first bytes table count place → (after : List ℕ) → after ≡ table_visited Payments first bytes table count place → v.known ≡ false → InBlock room first bytes from best (place + 1) after grown v.next
      block_next grown d after a t =
          record {
            filling = filling_next room Payments first bytes from best place table count next b.filling standing v q grown d after a h;
            clean = λ k l m. still k l (le_of_suc-le-suc (rw (← add-one place) m));
          }
        where
          still : (k : ℕ) → from ≤ k → k ≤ place → meets Payments first bytes from (lesser v.next k) k ≡ false
          still k l m =
              let e = visit_next room Payments first bytes from best place table count next b.filling standing v q grown d after a k m in
              rw e
              (⊎_elim (λ (i : k ≡ place). rw i (sym told ∙ t)) (λ (i : k < place). b.clean k l i) (eq-or-lt_of_le m))

    pub block_end : place ≤ best → best ≤ place → Blocked first bytes from best best next
    block_end h l = record {
      within = omega arith;
      ahead = b.filling.ahead;
      clean = λ k m i. b.clean k m (omega arith);
      found = λ m. absurd (lt_irrefl best m);
    }

-- after the blocks before a place: the best is a repeat, or there is none yet; no record before the best has the number of an earlier one before the place
pub record Sought (first : ℕ) (bytes : List ℕ) (count best from : ℕ) : Type 0 where
  pub within : best ≤ count
  pub clean : (k : ℕ) → k < best → meets Payments first bytes 0 (lesser from k) k ≡ false
  pub found : best < count → is_repeat first bytes best ≡ true

module _ (first : ℕ) (bytes : List ℕ) (count : ℕ) where
  pub sought_none : Sought first bytes count count 0
  sought_none = record {
    within = omega arith;
    clean = λ k h. meets_none Payments first bytes 0 (0 - (0 - k)) k (omega arith);
    found = λ h. absurd (lt_irrefl count h);
  }

  module _ (best from : ℕ) (o : Sought first bytes count best from) where
    pub sought_next : (place next : ℕ) → Blocked first bytes from best place next → Sought first bytes count place next
    unfolding is_repeat ◌or◌
    sought_next place next b =
        let w = b.within in
        let u = o.within in
        record {
          within = omega arith;
          clean = λ k h. all k h (ltb k from) refl;
          found = λ h. ⊎_elim (λ (i : place ≡ best). same i (o.found (omega arith))) (λ (i : place < best). hit i) (eq-or-lt_of_le w);
        }
      where
        same : place ≡ best → is_repeat first bytes best ≡ true → is_repeat first bytes place ≡ true
        same e t = rw e t

        hit : place < best → is_repeat first bytes place ≡ true
        hit h = b.found h

        all : (k : ℕ) → k < place → (t : Bool) → ltb k from ≡ t → meets Payments first bytes 0 (lesser next k) k ≡ false
        all k h true e =
            let i = ltb-true k from e in
            let d = b.ahead in
            let w = b.within in
            let f : next - (next - k) ≡ from - (from - k) = omega arith in
            rw f (o.clean k (omega arith))
        all k h false e =
            let i = ltb-false k from e in
            let d = b.ahead in
            let w = b.within in
            let f : from - (from - k) ≡ from = omega arith in
            let c = o.clean k (omega arith) in
            meets_join Payments first bytes 0 from (lesser next k) k (omega arith) (omega arith) ∙ rw (← f) (rw (c, f) (b.clean k i h))

    module _ (m : count ≡ length bytes / 850) (l : best ≤ from) where
      clear : (k : ℕ) → k < best → is_repeat first bytes k ≡ false
      unfolding is_repeat
      clear k h =
          let e : from - (from - k) ≡ k = omega arith in
          sym (meets_all Payments first bytes k) ∙ rw e at (o.clean k h)

      pub sought_hit : best < count → Some (first + best) ≡ wanted_repeat first bytes
      unfolding is_repeat
      sought_hit h = seeking_stop first bytes best count m h (seek first bytes count m best o.within clear) (o.found h)

      pub sought_miss : count ≤ best → None ≡ wanted_repeat first bytes
      sought_miss h = seeking_end first bytes best count m h (seek first bytes count m best o.within clear)
