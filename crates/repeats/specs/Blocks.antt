-- Blocks: the records from a place on, as far as a table has room for their numbers. No promise to other crates rests on them.
use Rattle.std.specs.Prelude.{ℕ, ◌+◌, ◌-◌, ◌*◌, ◌<◌, ◌≤◌, ◌≡◌, Bool, true, false, not, List, drop}
use Rattle.record.specs.Choice.{◌and◌, choose}
use Rattle.record.specs.Value.{held}
use Rattle.nesting.specs.Division.{Record}
use Rattle.nesting.specs.Records.{cut, record_at}
use Rattle.tables.specs.declared.Key.TheVariants.{Value}
use Rattle.tables.specs.Tables.{member, is_known, is_new, count_after, table_after}
use Rattle.repeats.specs.declared.Sort.{Sort}
use Rattle.repeats.specs.declared.Sort.TheVariants.{Payments}
use Rattle.repeats.specs.declared.blocks.Visited.{Visited}
use Rattle.repeats.specs.Repeats.{numbering, is_of, numbers, repeats}

-- the lesser of two
abbrev pub lesser : ℕ → ℕ → ℕ
lesser a b = a - (a - b)

-- the records from a place up to another; the record at place 0 has the number `first`
abbrev pub between : ℕ → ℕ → ℕ → List ℕ → List Record
between first from to bytes = cut (first + from) (to - from) (drop (from * 850) bytes)

-- the record at the place is of the sort and has the number of one of those
unfoldable pub meets : Sort → ℕ → List ℕ → ℕ → ℕ → ℕ → Bool
meets sort first bytes from to place =
    is_of sort (record_at first place bytes) and member (held (record_at first place bytes) (numbering sort)) (numbers sort (between first from to bytes))

module _ (sort : Sort) (first : ℕ) (bytes table : List ℕ) (count place : ℕ) where
  -- the record is of the sort, and the table neither holds its number nor has room for it
  unfoldable pub is_left_out : Bool
  is_left_out =
      is_of sort (record_at first place bytes) and not (is_known first (Value (numbering sort)) bytes table count place) and not (is_new first (Value (numbering sort)) bytes table count place)

  -- what is known after the record: whether it is of the sort, whether the table holds its number, and the first record that was left out
  unfoldable pub visited : ℕ → Visited
  visited next = record {
    own = is_of sort (record_at first place bytes);
    known = is_of sort (record_at first place bytes) and is_known first (Value (numbering sort)) bytes table count place;
    next = choose is_left_out (lesser next place) next;
  }

  -- how many places the table holds after it
  unfoldable pub count_visited : ℕ
  count_visited = choose (is_of sort (record_at first place bytes)) (count_after first (Value (numbering sort)) bytes table count place) count

  -- the table after it
  unfoldable pub table_visited : List ℕ
  table_visited = choose (is_of sort (record_at first place bytes)) (table_after first (Value (numbering sort)) bytes table count place) table

-- a block that begins at `from`: the first place before the best at which a detail has the ID of an earlier one of the block, or the best; the
-- block reaches up to `next`
pub record Blocked (first : ℕ) (bytes : List ℕ) (from best place next : ℕ) : Type 0 where
  pub within : place ≤ best
  pub ahead : from < next
  pub clean : (k : ℕ) → from ≤ k → k < place → meets Payments first bytes from (lesser next k) k ≡ false
  pub found : place < best → repeats Payments (cut first place bytes) (record_at first place bytes) ≡ true
