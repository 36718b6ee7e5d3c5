-- The pass over the records of a file says what Survey.antt promises.
-- Assumes nothing.
use mathlib.Core.Path.{◌≡◌, refl, sym, ◌∙◌, ap, subst}
use mathlib.Core.Bool.{Bool, true, false}
use mathlib.Core.List.{List, [], ◌∷◌}
use Prim.Native.Nat.{ℕ, ◌+◌, ◌<◌}
use native.Mathlib.Omega.{arith}
use lib.ListN.{get_or}
use Rattle.record.specs.Choice.{choose}
use Rattle.money.specs.Money.{worth, split, Whole}
use Rattle.money.proofs.Amounts.{worth_split, split_whole, whole_split}
use Rattle.std.specs.Prelude.{Option, Some, None, is_some, Result, Ok, Err}
use Rattle.nesting.specs.declared.Counts.{Counts}
use Rattle.nesting.specs.declared.reader.Place.TheVariants.{FileClosed}
use Rattle.nesting.specs.Division.{Record}
use Rattle.nesting.specs.Paid.{paid_by_all}
use Rattle.nesting.specs.Records.{records}
use Rattle.nesting.specs.Promise.{Nested}
use Rattle.nesting.specs.Reader.{is_at, follows, after, start, counted, read_on}
use Rattle.nesting.proofs.Cuts.{records_whole}
use Rattle.nesting.proofs.Answer.{answer}
use Rattle.characters.specs.Characters.{clean, first_unclean}
use Rattle.survey.specs.declared.Survey.{Survey}
use Rattle.survey.specs.declared.pass.Going.{Going}
use Rattle.survey.specs.Pass.{detail_cents, paid_in, begun, stepped, survey_on}
use Rattle.survey.specs.Survey.{Surveyed}
use Rattle.survey.specs.Survey.Surveyed.{legal, refused}
use Rattle.survey.proofs.Details.{paid_divided}

-- what the reader's answer about the records that are left comes to, n having been read
survey_by : Going → ℕ → List Record → Result Counts ℕ → Result Survey ℕ
survey_by g n rs (Ok c) =
    Ok (record {
      counts = c;
      unclean = choose (is_some g.unclean) g.unclean (first_unclean (n + 1) rs);
      total = split (worth g.total + paid_in rs);
    })
survey_by g n rs (Err k) = Err k

-- the first low byte stays the first
noted : (u : Option ℕ) (n : ℕ) (r : Record) (rs : List Record) (v : Option ℕ) → v ≡ choose (is_some u) u (choose (clean r) None (Some n))
    → choose (is_some u) u (first_unclean n (r ∷ rs)) ≡ choose (is_some v) v (first_unclean (n + 1) rs)
unfolding first_unclean choose
noted (Some k) n r rs v e = rw e
noted None n r rs v e = rw e (go (clean r))
  where
    go : (t : Bool) → choose t (first_unclean (n + 1) rs) (Some n) ≡ choose (is_some (choose t None (Some n))) (choose t None (Some n)) (first_unclean (n + 1) rs)
    go true = refl
    go false = refl

-- no record more
kept : (u : Option ℕ) → choose (is_some u) u None ≡ u
unfolding choose
kept (Some k) = refl
kept None = refl

-- one record more
survey_next : (g : Going) (n : ℕ) (r : Record) (rs : List Record) (v : Result Counts ℕ) → survey_by (stepped (n + 1) r g) (n + 1) rs v ≡ survey_by g n (r ∷ rs) v
unfolding survey_by stepped paid_in
survey_next g n r rs (Ok c) =
    let u = noted g.unclean (n + 1) r rs _ refl in
    let t : worth (split (worth g.total + detail_cents r)) + paid_in rs ≡ worth g.total + (detail_cents r + paid_in rs) = rw worth_split (omega arith) in
    rw (← u, t)
survey_next g n r rs (Err k) = refl

-- the pass says what the reader says, with what it found
reads_on : (g : Going) (n : ℕ) (rs : List Record) → Whole g.total → survey_on g n rs ≡ survey_by g n rs (read_on g.state n rs)
unfolding survey_on read_on survey_by stepped choose first_unclean paid_in
reads_on g n [] w = go (is_at g.state FileClosed)
  where
    go : (t : Bool) → choose t (Ok (record { counts = counted g.state; unclean = g.unclean; total = g.total })) (Err (n + 1))
        ≡ survey_by g n [] (choose t (Ok (counted g.state)) (Err (n + 1)))
    go true =
        let z : worth g.total + 0 ≡ worth g.total = omega arith in
        rw (kept g.unclean, z, ← whole_split g.total w)
    go false = refl
reads_on g n (r ∷ rs) w = go (follows g.state r) (reads_on (stepped (n + 1) r g) (n + 1) rs (split_whole _))
  where
    go : (t : Bool) → survey_on (stepped (n + 1) r g) (n + 1) rs ≡ survey_by (stepped (n + 1) r g) (n + 1) rs (read_on (after g.state r) (n + 1) rs)
        → choose t (survey_on (stepped (n + 1) r g) (n + 1) rs) (Err (n + 1))
        ≡ survey_by g n (r ∷ rs) (choose t (read_on (after g.state r) (n + 1) rs) (Err (n + 1)))
    go true h = h ∙ survey_next g n r rs (read_on (after g.state r) (n + 1) rs)
    go false h = refl

-- what is found in the whole file is what is promised
promised : (f : List ℕ) (v : Result Counts ℕ) → Nested (records f) v → Surveyed f (survey_by begun 0 (records f) v)
unfolding survey_by begun choose
promised f v (Nested.legal d h) =
    let e : paid_in (records f) ≡ paid_by_all d.batches = ap paid_in (sym h.whole) ∙ paid_divided d h.legal in
    let t : worth (split 0) + paid_in (records f) ≡ paid_by_all d.batches = rw (worth_split 0) (omega (arith, e)) in
    rw t (legal d h)
promised f v (Nested.refused k t) = refused k t

-- the pass over a file whose bytes are bytes
pub surveyed : (f : List ℕ) → ((i : ℕ) → get_or f i 0 < 256) → Surveyed f (survey_on begun 0 (records f))
unfolding begun
surveyed f b =
    subst (Surveyed f) (sym (reads_on begun 0 (records f) (split_whole 0)))
    (promised f (read_on start 0 (records f)) (answer (records f) (records_whole f b)))
