-- A code that is not DT, by its tag: what the last arm of the match knows.
-- Assumes nothing.
use mathlib.Core.Path.{◌≡◌, refl}
use mathlib.Core.Bool.{false}
use mathlib.Core.List.{[], ◌∷◌}
use types.Run.{OneOf, miss}
use denote.Enum.Declared.{tag_of}
use Rattle.record.specs.declared.codes.Code.{Code}
use Rattle.record.specs.declared.codes.Code.TheVariants.{FileHeader, Batch, Detail, Party, Account, Procurement, BatchTrailer, FileTrailer, Unknown}
use Rattle.kinds.specs.Kinds.{is_account}

pub not_account : (k : Code) → OneOf (0 ∷ 1 ∷ 2 ∷ 3 ∷ 5 ∷ 6 ∷ 7 ∷ 8 ∷ []) (tag_of Rattle.record.specs.contracts.codes.Code.the_type k) → false ≡ is_account k
unfolding is_account
not_account FileHeader h = refl
not_account (Batch l) h = refl
not_account (Detail l) h = refl
not_account Party h = refl
not_account Account h = absurd (miss (0 ∷ 1 ∷ 2 ∷ 3 ∷ 5 ∷ 6 ∷ 7 ∷ 8 ∷ []) 4 tt h)
not_account Procurement h = refl
not_account BatchTrailer h = refl
not_account FileTrailer h = refl
not_account Unknown h = refl
