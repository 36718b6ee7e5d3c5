-- What a file of the table may have: records that its space holds, and numbers that its FT can say in four digits.
use Rattle.std.specs.Prelude.{ℕ, ◌≤◌, ◌<◌}

-- of records, payments and batches
abbrev pub Sized : ℕ → ℕ → ℕ → Type 0
Sized records payments batches = (2 ≤ records) × (records ≤ 3700) × (payments < 10000) × (batches < records)
