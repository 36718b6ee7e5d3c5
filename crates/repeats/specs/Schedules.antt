-- Batches' schedule numbers, in file order: which of them an earlier batch has (01 Batch reasons, 6).
use Rattle.std.specs.Prelude.{ℕ, ◌+◌, ◌-◌, ◌*◌, ◌/◌, ◌≤◌, ◌≡◌, Bool, true, false, not, List, [], ◌∷◌, ◌++◌, length, drop}
use Rattle.record.specs.Choice.{◌and◌, ◌or◌, choose}
use Rattle.record.specs.Value.{held}
use Rattle.record.specs.Ordering.{order, is_after}
use Rattle.nesting.specs.Records.{cut, record_at}
use Rattle.repeats.specs.declared.Sort.TheVariants.{Batches}
use Rattle.repeats.specs.declared.Numbering.{Numbering}
use Rattle.tables.specs.Tables.{member}
use Rattle.repeats.specs.Repeats.{numbering, is_of, numbers, Topped}

-- of each number in turn, after these: 1 where it is an earlier one, 0 where it is new
unfoldable pub flags_of : List (List ℕ) → List (List ℕ) → List ℕ
flags_of earlier [] = []
flags_of earlier (y ∷ ys) = choose (member y earlier) 1 0 ∷ flags_of (earlier ++ y ∷ []) ys

-- what is known of the numbers of batches, between the earlier and the later ones: while they rise, that no earlier one stands after the
-- greatest; once the later ones are marked, their flags
pub record Noted (earlier later : List (List ℕ)) (greatest : List ℕ) (marked : Bool) (flags : List ℕ) : Type 0 where
  pub rising : marked ≡ false → Topped greatest earlier
  pub marks : marked ≡ true → flags ≡ flags_of earlier later

module _ (file : List ℕ) (place : ℕ) where
  -- the schedule numbers before the place, and from it on
  unfoldable pub numbers_before : List (List ℕ)
  numbers_before = numbers Batches (cut 1 place file)

  unfoldable pub numbers_from : List (List ℕ)
  numbers_from = numbers Batches (cut (1 + place) (length file / 850 - place) (drop (place * 850) file))

  -- the schedule number of the record at the place
  abbrev pub number_at : List ℕ
  number_at = held (record_at 1 place file) (numbering Batches)

  -- a batch's header stands at the place of a file, and there is a flag for each batch from it on
  pub record Batched (flags : List ℕ) : Type 0 where
    pub within : place * 850 + 850 ≤ length file
    pub few : length file ≤ 65535 * 850
    pub header : is_of Batches (record_at 1 place file) ≡ true
    pub size : length flags ≡ length numbers_from

  module _ (greatest : List ℕ) (marked : Bool) where
    -- the numbers have risen so far, and this one stands after the greatest; it does not
    unfoldable pub goes_up : Bool
    goes_up = not marked and is_after (order number_at greatest)

    unfoldable pub falls : Bool
    falls = not marked and not (is_after (order number_at greatest))

    -- whether an earlier batch has the number; the greatest after it; whether there are flags after it
    unfoldable pub numbered : Numbering
    numbered = record { repeats = member number_at numbers_before; greatest = choose goes_up number_at greatest; marked = marked or falls }

    -- the flags after it
    unfoldable pub flagged : List ℕ → List ℕ
    flagged flags = choose falls (flags_of numbers_before numbers_from) flags
