-- The pass from record to record (01 File answers, 5, 7 and 13). No promise about a file rests on it: the proofs tie it to Survey.antt.
use Rattle.std.specs.Prelude.{◌≡◌, Bool, true, ℕ, ◌+◌, ◌*◌, ◌<◌, List, [], ◌∷◌, is_some, Some, None, Result, Ok, Err}
use Rattle.std.proofs.Math.Seq.{slice}
use Rattle.record.specs.Choice.{choose}
use Rattle.record.specs.Fields.{amount}
use Rattle.record.specs.Value.{held}
use Rattle.record.specs.Tests.{valid}
use Rattle.record.specs.Codes.{code_of, is_detail}
use Rattle.money.specs.Money.{worth, split, cents, Whole}
use Rattle.nesting.specs.declared.reader.Place.TheVariants.{FileClosed}
use Rattle.nesting.specs.Division.{Record}
use Rattle.nesting.specs.Reader.{is_at, start, follows, after, counted}
use Rattle.characters.specs.Characters.{clean}
use Rattle.survey.specs.declared.Survey.{Survey}
use Rattle.survey.specs.declared.pass.Going.{Going}

-- the cents of a detail, 0 of any other record; an amount that is not 20 digits counts as zero (01 File answers, 13)
abbrev pub detail_cents : Record → ℕ
detail_cents r = choose (is_detail (code_of r)) (cents (held r amount)) 0

-- the cents of the details among records (01 File answers, 13)
unfoldable pub paid_in : List Record → ℕ
paid_in [] = 0
paid_in (r ∷ rs) = detail_cents r + paid_in rs

-- no byte from `at` up to `to` is below hex 40, fillers too (01 Bytes)
unfoldable pub High : List ℕ → ℕ → ℕ → Type 0
High bytes at to = valid (slice at to bytes) ≡ true

-- a record that is said to be high has no byte below hex 40, fillers too (01 Bytes)
abbrev pub HighIf : Bool → Record → Type 0
HighIf said r = said ≡ true → valid r ≡ true

-- before the first record
unfoldable pub begun : Going
begun = record { state = start; unclean = None; total = split 0 }

-- after the record with this number, which fits: the reader's state, the first record with a low byte, the sum of the details
unfoldable pub stepped : ℕ → Record → Going → Going
stepped n r g =
    record {
      state = after g.state r;
      unclean = choose (is_some g.unclean) g.unclean (choose (clean r) None (Some n));
      total = split (worth g.total + detail_cents r);
    }

-- what the pass says of the records that are left, n having been read
unfoldable pub survey_on : Going → ℕ → List Record → Result Survey ℕ
survey_on g n [] =
    choose (is_at g.state FileClosed) (Ok (record { counts = counted g.state; unclean = g.unclean; total = g.total })) (Err (n + 1))
survey_on g n (r ∷ rs) = choose (follows g.state r) (survey_on (stepped (n + 1) r g) (n + 1) rs) (Err (n + 1))

-- the counts and the sum have room for the record n
pub record Room (n : ℕ) (g : Going) : Type 0 where
  pub batches : g.state.batches < n
  pub payments : g.state.payments < n
  pub whole : Whole g.total
  pub total : worth g.total < n * 100000000000000000000
