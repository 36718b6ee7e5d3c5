-- Document 01's worked examples of nesting, each with its answer, and that every answer is the promised one.
-- Assumes nothing.
use mathlib.Core.Path.{◌≡◌, refl, subst}
use mathlib.Core.Bool.{Bool, true}
use mathlib.Core.List.{List, [], ◌∷◌, map}
use Prim.Native.Nat.{ℕ, ◌<◌}
use native.Mathlib.Omega.{arith}
use lib.ListN.{replicate}
use Rattle.record.specs.declared.codes.Letter.TheVariants.{N, W}
use Rattle.record.specs.declared.codes.Code.{Code}
use Rattle.record.specs.declared.codes.Code.TheVariants.{FileHeader, Batch, Detail, Party, BatchTrailer, FileTrailer}
use Rattle.record.specs.Choice.{◌and◌, ◌or◌, choose}
use Rattle.record.specs.Correction.{from_first, moved_left, corrected}
use Rattle.record.specs.Value.{written, held}
use Rattle.record.specs.Tests.{alike}
use Rattle.record.specs.Codes.{letter_byte, code_bytes, code_in, code_of}
use Rattle.record.proofs.Chain.{and_left, and_right}
use Rattle.nesting.specs.declared.Counts.{Counts}
use Rattle.std.specs.Prelude.{Result, Ok, Err}
use Rattle.nesting.specs.Division.{Record, All, Whole}
use Rattle.nesting.specs.Promise.{Nested}
use Rattle.nesting.specs.Reader.{place_number, is_at, same_letter, is_check, besides, complete, owns, opens_batch, opens_payment, takes_party, takes_account, takes_procurement, fits, start, moved, in_batch, in_payment, taken, next, follows, after, read_on}
use Rattle.nesting.proofs.Coding.{known, two_bytes}
use Rattle.nesting.proofs.Wholes.{all_replicate, made, made_whole}
use Rattle.nesting.proofs.Answer.{answer}

-- the codes of a file's records, in order, and the answer
pub record Example : Type 0 where
  pub codes : List Code
  pub answer : Result Counts ℕ

-- document 01: FH BN DN DX BT FT; FH BN DN BT; FH BN DW; FH BN DN DX; FH FT
unfoldable pub examples : List Example
examples =
    record { codes = FileHeader ∷ Batch N ∷ Detail N ∷ Party ∷ BatchTrailer ∷ FileTrailer ∷ []; answer = Ok (record { batches = 1; payments = 1 }) }
    ∷ record { codes = FileHeader ∷ Batch N ∷ Detail N ∷ BatchTrailer ∷ []; answer = Err 4 }
    ∷ record { codes = FileHeader ∷ Batch N ∷ Detail W ∷ []; answer = Err 3 }
    ∷ record { codes = FileHeader ∷ Batch N ∷ Detail N ∷ Party ∷ []; answer = Err 5 }
    ∷ record { codes = FileHeader ∷ FileTrailer ∷ []; answer = Err 2 }
    ∷ []

-- records of these codes, one ID throughout
pub sample : List Code → List Record
sample codes = map (λ (c : Code). made (code_bytes c) (replicate 20 0x40)) codes

abbrev pub Right : Example → Type 0
Right e = Nested (sample e.codes) e.answer

all_known : List Code → Bool
all_known [] = true
all_known (c ∷ cs) = known c and all_known cs

sample_whole : (cs : List Code) → all_known cs ≡ true → All Whole (sample cs)
unfolding sample all_known
sample_whole [] k = tt
sample_whole (c ∷ cs) k =
    let z = two_bytes c (and_left (known c) _ k) in (
      made_whole (code_bytes c) (replicate 20 0x40) z.0 refl z.1 (all_replicate (λ x. x < 256) 20 0x40 (omega arith)),
      sample_whole cs (and_right (known c) _ k),
    )

-- the reader's answer to each, worked out
record Worked (e : Example) : Type 0 where
  codes : all_known e.codes ≡ true
  answer : read_on start 0 (sample e.codes) ≡ e.answer

worked : All Worked examples
unfolding examples sample all_known made from_first moved_left corrected written held alike letter_byte code_bytes code_in code_of choose ◌and◌ ◌or◌ place_number is_at same_letter is_check besides complete owns opens_batch opens_payment takes_party takes_account takes_procurement fits start moved in_batch in_payment taken next follows after read_on
worked = (
  record { codes = refl; answer = refl },
  (
    record { codes = refl; answer = refl },
    (record { codes = refl; answer = refl }, (record { codes = refl; answer = refl }, (record { codes = refl; answer = refl }, tt))),
  ),
)

all_right : (es : List Example) → All Worked es → All Right es
all_right [] ws = tt
all_right (e ∷ es) ws =
    (subst (Nested (sample e.codes)) ws.0.answer (answer (sample e.codes) (sample_whole e.codes ws.0.codes)), all_right es ws.1)

pub examples_right : All Right examples
examples_right = all_right examples worked
