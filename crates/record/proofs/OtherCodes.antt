-- A code that is not the one asked for: what the last arm of a match knows.
-- Assumes nothing.
use mathlib.Core.Path.{◌≡◌, refl}
use mathlib.Core.Bool.{false}
use Rattle.record.specs.declared.codes.Code.{Code}
use Rattle.record.specs.declared.codes.Code.TheVariants.{FileHeader, Batch, Detail, Party, Account, Procurement, BatchTrailer, FileTrailer, Unknown}
use Rattle.record.specs.declared.codes.Letter.{Letter}
use Rattle.record.specs.declared.codes.Letter.TheVariants.{N}
use Rattle.record.specs.Codes.{is_detail, is_trailer, letter_in}

pub not_detail : (k : Code) → ((l : Letter) → k ≡ Detail l → ⊥) → false ≡ is_detail k
unfolding is_detail
not_detail FileHeader h = refl
not_detail (Batch l) h = refl
not_detail (Detail l) h = absurd (h l refl)
not_detail Party h = refl
not_detail Account h = refl
not_detail Procurement h = refl
not_detail BatchTrailer h = refl
not_detail FileTrailer h = refl
not_detail Unknown h = refl

pub not_trailer : (k : Code) → (k ≡ BatchTrailer → ⊥) → false ≡ is_trailer k
unfolding is_trailer
not_trailer FileHeader h = refl
not_trailer (Batch l) h = refl
not_trailer (Detail l) h = refl
not_trailer Party h = refl
not_trailer Account h = refl
not_trailer Procurement h = refl
not_trailer BatchTrailer h = absurd (h refl)
not_trailer FileTrailer h = refl
not_trailer Unknown h = refl

pub no_letter : (k : Code) → ((l : Letter) → k ≡ Batch l → ⊥) → ((l : Letter) → k ≡ Detail l → ⊥) → N ≡ letter_in k
unfolding letter_in
no_letter FileHeader g h = refl
no_letter (Batch l) g h = absurd (g l refl)
no_letter (Detail l) g h = absurd (h l refl)
no_letter Party g h = refl
no_letter Account g h = refl
no_letter Procurement g h = refl
no_letter BatchTrailer g h = refl
no_letter FileTrailer g h = refl
no_letter Unknown g h = refl
