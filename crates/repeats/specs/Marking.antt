-- How the batches from a start on are marked, block by block. No promise to other crates rests on it.
use Rattle.std.specs.Prelude.{ℕ, zero, suc, ◌+◌, ◌-◌, ◌/◌, ◌≡◌, Bool, List, [], ◌∷◌, ◌++◌, leb, length}
use Rattle.record.specs.Choice.{choose}
use Rattle.nesting.specs.Records.{record_at}
use Rattle.repeats.specs.declared.Sort.TheVariants.{Batches}
use Rattle.repeats.specs.Repeats.{is_of}
use Rattle.repeats.specs.Blocks.{lesser, meets}

-- as many flags that say 'new'
unfoldable pub zeros : ℕ → List ℕ
zeros zero = []
zeros (suc n) = 0 ∷ zeros n

-- the index of the next flag after the record at the place, which has one if it is a header from the start on
abbrev pub index_after : ℕ → ℕ → Bool → ℕ → ℕ
index_after start place heads index = choose (leb start place) (choose heads (index + 1) index) index

module _ (file : List ℕ) where
  -- the flag of the header at the place, as far as the numbers before the limit tell
  abbrev pub flag_at : ℕ → ℕ → ℕ
  flag_at limit place = choose (meets Batches 1 file 0 (lesser limit place) place) 1 0

  -- the flags of the headers among so many records from the start on
  unfoldable pub marks_to : ℕ → ℕ → ℕ → List ℕ
  marks_to limit start zero = []
  marks_to limit start (suc n) = marks_to limit start n ++ choose (is_of Batches (record_at 1 (start + n) file)) (flag_at limit (start + n) ∷ []) []

  -- all flags, as far as the numbers before the limit tell
  abbrev pub Marked : ℕ → ℕ → List ℕ → Type 0
  Marked start limit flags = flags ≡ marks_to limit start (length file / 850 - start)
