-- The loop over a file: what is left of its records decides.
-- Assumes nothing.
use mathlib.Core.Path.{◌≡◌, refl, sym, ◌∙◌, subst}
use mathlib.Core.Bool.{Bool, true, false}
use mathlib.Core.List.{List, [], ◌∷◌}
use Prim.Native.Nat.{ℕ, suc, ◌+◌, ◌*◌, ◌/◌, ◌-◌, ◌<◌, ◌≤◌}
use native.Mathlib.Omega.{arith}
use lib.ListN.{length, drop, get_or}
use Rattle.record.specs.declared.codes.Code.{Code}
use Rattle.record.specs.Choice.{choose}
use Rattle.page.specs.CodePage.{shown}
use Rattle.record.specs.Fields.{payment_id}
use Rattle.record.specs.Value.{held}
use Rattle.record.specs.Codes.{code_of}
use Rattle.page.proofs.Shown.{shown_length, shown_bytes}
use Rattle.std.specs.Prelude.{Ok, Err}
use Rattle.nesting.specs.declared.reader.Place.TheVariants.{FileClosed}
use Rattle.nesting.specs.Division.{Record}
use Rattle.nesting.specs.Records.{cut, records, Cuttable}
use Rattle.nesting.specs.Reader.{is_at, fits, follows, counted}
use Rattle.nesting.proofs.Cuts.{bytes_from, from_length, record_from, cut_next}
use Rattle.survey.specs.declared.pass.Going.{Going}
use Rattle.survey.specs.Pass.{detail_cents, begun, stepped, survey_on, Room}
use Rattle.survey.specs.Survey.{Surveyed}
use Rattle.survey.proofs.Details.{cents_small}
use Rattle.survey.proofs.Steps.{room_begun, room_next}
use Rattle.survey.proofs.Adequate.{surveyed}

-- the records that are left after n, from `at` on
abbrev left : List ℕ → ℕ → ℕ → List Record
left f n at = cut (n + 1) (length f / 850 - n) (drop at f)

-- n records have been read, up to `at`: what is known says with what is left what the file says
pub record Surveying (f : List ℕ) (g : Going) (n at : ℕ) : Type 0 where
  pub place : at ≡ n * 850
  pub decides : survey_on begun 0 (records f) ≡ survey_on g n (left f n at)
  pub room : Room (n + 1) g

pub surveying : (f : List ℕ) (g : Going) → g ≡ begun → Surveying f g 0 0
unfolding records
surveying f g e =
    let n : length f / 850 - 0 ≡ length f / 850 = omega arith in
    rw e (record { place = refl; decides = rw n; room = room_begun })

module _ (ascii : Bool) (sent : List ℕ) (g : Going) (n at : ℕ) (w : Cuttable sent) (l : Surveying (shown ascii sent) g n at) where
  abbrev f : List ℕ
  f = shown ascii sent

  as_long : length f ≡ length sent
  as_long = shown_length ascii sent

  abbrev here : Record
  here = record_from ascii sent at

  -- one more record is left
  left_next : at < length sent → left f n at ≡ here ∷ left f (n + 1) (at + 850)
  left_next h =
      let e : length f / 850 - n ≡ suc (length f / 850 - (n + 1)) = omega (arith, w.whole, l.place, as_long) in
      rw e (cut_next ascii sent (n + 1) at (length f / 850 - (n + 1)))

  pub within_next : at < length sent → at + 850 ≤ length sent
  within_next h = omega (arith, w.whole, l.place)

  here_small : at < length sent → detail_cents here < 100000000000000000000
  here_small h = cents_small ascii (bytes_from sent at) (omega (arith, from_length sent at (within_next h)))

  pub number_few : at < length sent → n + 1 ≤ 65535
  number_few h = omega (arith, w.few, l.place)

  -- a record that fits, and one that does not
  module _ (code : Code) (h : at < length sent) (c : code ≡ code_of here) (y : Bool) (o : y ≡ fits g.state code (held here payment_id)) where
    known : (b : Bool) → y ≡ b → follows g.state here ≡ b
    unfolding follows
    known b e = rw (← c) (sym o ∙ e)

    pub turned : y ≡ true → (t : Going) → t ≡ stepped (n + 1) here g → Surveying f t (n + 1) (at + 850)
    unfolding survey_on choose
    turned e t q =
        rw q
        (record {
          place = omega (arith, l.place);
          decides = l.decides ∙ rw (left_next h, known true e);
          room = room_next (n + 1) g l.room here (here_small h);
        })

    pub stopped : ((i : ℕ) → get_or sent i 0 < 256) → y ≡ false → Surveyed f (Err (n + 1))
    unfolding survey_on choose
    stopped b e =
        let s : survey_on g n (left f n at) ≡ Err (n + 1) = rw (left_next h, known false e) in
        subst (Surveyed f) (l.decides ∙ s) (surveyed f (shown_bytes ascii sent b))

  -- none is left
  module _ (b : (i : ℕ) → get_or sent i 0 < 256) (h : length sent ≤ at) where
    left_none : left f n at ≡ []
    unfolding cut
    left_none =
        let e : length f / 850 - n ≡ 0 = omega (arith, l.place, as_long) in
        rw e

    pub closed : is_at g.state FileClosed ≡ true → Surveyed f (Ok (record { counts = counted g.state; unclean = g.unclean; total = g.total }))
    unfolding survey_on choose
    closed e =
        let s : survey_on g n (left f n at) ≡ Ok (record { counts = counted g.state; unclean = g.unclean; total = g.total }) = rw (left_none, e) in
        subst (Surveyed f) (l.decides ∙ s) (surveyed f (shown_bytes ascii sent b))

    pub unclosed : is_at g.state FileClosed ≡ false → Surveyed f (Err (n + 1))
    unfolding survey_on choose
    unclosed e =
        let s : survey_on g n (left f n at) ≡ Err (n + 1) = rw (left_none, e) in
        subst (Surveyed f) (l.decides ∙ s) (surveyed f (shown_bytes ascii sent b))
