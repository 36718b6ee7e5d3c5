-- What became of a record, by whether the table held its value and had room.
-- Assumes nothing.
use mathlib.Core.Path.{◌≡◌, refl, ◌∙◌}
use mathlib.Core.Bool.{Bool, true, false}
use mathlib.Core.List.{List}
use Prim.Native.Nat.{ℕ, ◌+◌, ◌≤◌, ◌<◌}
use native.Mathlib.Omega.{arith}
use borrow.Author.Tests.{lt-ltb, le-ltb}
use lib.ListN.{length}
use Rattle.std.specs.Prelude.{Result, Err, MatchResult}
use Rattle.record.specs.Choice.{◌and◌, choose}
use Rattle.tables.specs.declared.Entry.TheVariants.{Known, New, Full}
use Rattle.tables.specs.declared.Key.{Key}
use Rattle.tables.specs.Tables.{Tabled, value_at, kept, member, rank, inserted_at, is_known, is_new, tells_known, entry_of, count_after, table_after}
use Rattle.tables.proofs.Values.{rank_size}
use Rattle.tables.proofs.Seeks.{kept_length}

-- the seat that a search answers
pub seat_told : (n : ℕ) (r : Result ℕ ℕ) (seat : ℕ) → MatchResult r (λ at. at ≡ n) (λ at. at ≡ n) → r ≡ Err seat → seat ≡ n
seat_told n r seat m e = rw e at m

module _ (first : ℕ) (key : Key) (bytes table : List ℕ) (count place : ℕ) where
  abbrev x : List ℕ
  x = value_at first key bytes place

  abbrev values : List (List ℕ)
  values = kept first key bytes table count

  -- a seat lies among the places, or behind the last
  pub seat_in : (seat : ℕ) → Tabled first key bytes table count → seat ≡ rank x values → seat ≤ count
  seat_in seat t e = omega (arith, rank_size x values, kept_length first key bytes table count t.size)

  -- r is whether the table held the value
  module _ (r : Bool) (m : r ≡ member x values) where
    pub known_entry : r ≡ true → Known ≡ entry_of first key bytes table count place
    unfolding entry_of is_known choose
    known_entry e = rw (← m, e)

    pub known_count : r ≡ true → count ≡ count_after first key bytes table count place
    unfolding count_after is_new is_known ◌and◌ choose
    known_count e = rw (← m, e)

    pub known_table : r ≡ true → table ≡ table_after first key bytes table count place
    unfolding table_after is_new is_known ◌and◌ choose
    known_table e = rw (← m, e)

    pub new_entry : r ≡ false → count < length table → New ≡ entry_of first key bytes table count place
    unfolding entry_of is_new is_known ◌and◌ choose
    new_entry e h = rw (← m, e, lt-ltb count (length table) h)

    pub new_count : r ≡ false → count < length table → count + 1 ≡ count_after first key bytes table count place
    unfolding count_after is_new is_known ◌and◌ choose
    new_count e h = rw (← m, e, lt-ltb count (length table) h)

    pub new_table : (seat : ℕ) (after : List ℕ) → r ≡ false → count < length table → seat ≡ rank x values → after ≡ inserted_at table count seat place
        → after ≡ table_after first key bytes table count place
    unfolding table_after is_new is_known ◌and◌ choose
    new_table seat after e h s q = q ∙ rw (← m, e, lt-ltb count (length table) h, s)

    pub full_entry : r ≡ false → length table ≤ count → Full ≡ entry_of first key bytes table count place
    unfolding entry_of is_new is_known ◌and◌ choose
    full_entry e h = rw (← m, e, le-ltb count (length table) h)

    pub full_count : r ≡ false → length table ≤ count → count ≡ count_after first key bytes table count place
    unfolding count_after is_new is_known ◌and◌ choose
    full_count e h = rw (← m, e, le-ltb count (length table) h)

    pub full_table : r ≡ false → length table ≤ count → table ≡ table_after first key bytes table count place
    unfolding table_after is_new is_known ◌and◌ choose
    full_table e h = rw (← m, e, le-ltb count (length table) h)

  -- the answer tells whether the table held the value
  pub entry_known : tells_known (entry_of first key bytes table count place) ≡ member x values
  unfolding entry_of is_known tells_known choose
  entry_known = go (member x values) (is_new first key bytes table count place)
    where
      go : (a b : Bool) → tells_known (choose a Known (choose b New Full)) ≡ a
      go true b = refl
      go false true = refl
      go false false = refl
