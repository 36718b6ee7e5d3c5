-- The kinds of TAS/BETC (02 W1; 004 section 2.5): how many different ones the DT of a batch have.
use Rattle.std.specs.Prelude.{ℕ, ◌+◌, Bool, true, false, List, [], ◌∷◌, ◌++◌, ltb}
use Rattle.record.specs.declared.codes.Code.{Code}
use Rattle.record.specs.declared.codes.Code.TheVariants as code
use Rattle.record.specs.Choice.{choose}
use Rattle.record.specs.Codes.{code_of}
use Rattle.nesting.specs.Division.{Record}
pub use Rattle.tables.specs.Kind.{kind}
use Rattle.tables.specs.Tables.{member}

-- a DT (004 section 1.2)
unfoldable pub is_account : Code → Bool
is_account code.FileHeader = false
is_account (code.Batch l) = false
is_account (code.Detail l) = false
is_account code.Party = false
is_account code.Account = true
is_account code.Procurement = false
is_account code.BatchTrailer = false
is_account code.FileTrailer = false
is_account code.Unknown = false

-- the kinds of the DT among records, in file order
unfoldable pub kinds : List Record → List (List ℕ)
kinds [] = []
kinds (r ∷ rs) = choose (is_account (code_of r)) (kind r ∷ kinds rs) (kinds rs)

-- how many different ones there are: one counts where none of the earlier ones is equal to it
unfoldable pub different : List (List ℕ) → List (List ℕ) → ℕ
different earlier [] = 0
different earlier (k ∷ ks) = choose (member k earlier) 0 1 + different (earlier ++ k ∷ []) ks

-- more than 1,000 different ones
unfoldable pub crowded : List (List ℕ) → Bool
crowded ks = ltb 1000 (different [] ks)
