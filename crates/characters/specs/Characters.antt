-- The bytes that a record may hold (01 Bytes): none below hex 40 outside its fillers.
use Rattle.std.specs.Prelude.{ℕ, ◌+◌, Bool, true, List, [], ◌∷◌, Option, Some, None}
use Rattle.record.specs.declared.codes.Code.{Code}
use Rattle.record.specs.declared.codes.Code.TheVariants.{FileHeader, Batch, Detail, Party, Account, Procurement, BatchTrailer, FileTrailer, Unknown}
use Rattle.record.specs.Choice.{◌and◌, ◌or◌, choose}
use Rattle.record.specs.Value.{written}
use Rattle.record.specs.Tests.{valid}
use Rattle.record.specs.Codes.{code_of}
use Rattle.record.specs.Layout.{Row, layout, Record as Kind}
use Rattle.nesting.specs.Division.{Record}

-- the rows of a record by its code (004 sections 2.1 to 2.8); a code that is none of 004's has none, as no legal file has one (01 Nesting)
unfoldable pub rows_of : Code → List Row
rows_of FileHeader = layout Kind.FileHeader
rows_of (Batch l) = layout Kind.BatchHeader
rows_of (Detail l) = layout Kind.Detail
rows_of Party = layout Kind.Party
rows_of Account = layout Kind.Account
rows_of Procurement = layout Kind.Procurement
rows_of BatchTrailer = layout Kind.BatchTrailer
rows_of FileTrailer = layout Kind.FileTrailer
rows_of Unknown = []

-- every row is a filler, which is never looked at, or has only bytes 40-FF, as it stands (01 Bytes)
unfoldable pub clean_in : Record → List Row → Bool
clean_in r [] = true
clean_in r (row ∷ rows) = (row.unused or valid (written r row.position)) and clean_in r rows

-- no byte below hex 40 outside fillers (01 File answers, 7)
unfoldable pub clean : Record → Bool
clean r = clean_in r (rows_of (code_of r))

-- the number of the first record with one (01 File answers, 7), n being that of the first of all
unfoldable pub first_unclean : ℕ → List Record → Option ℕ
first_unclean n [] = None
first_unclean n (r ∷ rs) = choose (clean r) (first_unclean (n + 1) rs) (Some n)
