-- The walk over the earlier records: what is left decides.
-- Assumes nothing.
use mathlib.Core.Path.{◌≡◌, refl, sym, ◌∙◌}
use mathlib.Core.Bool.{Bool, true, false}
use mathlib.Core.List.{List, ◌∷◌}
use Prim.Native.Nat.{ℕ, suc, ◌+◌, ◌-◌, ◌≤◌, ◌<◌}
use native.Mathlib.Omega.{arith}
use Rattle.record.specs.Choice.{◌and◌, ◌or◌, choose}
use Rattle.record.specs.Value.{held}
use Rattle.record.specs.Tests.{alike}
use Rattle.record.proofs.Chain.{and_yes, or_yes, or_no}
use Rattle.nesting.specs.Records.{cut, record_at}
use Rattle.nesting.proofs.Cuts.{onward, cut_onward, cut_start}
use Rattle.tables.specs.Tables.{member}
use Rattle.repeats.specs.declared.Sort.{Sort}
use Rattle.repeats.specs.Repeats.{numbering, is_of, numbers, repeats}

pub member_choose : (b : Bool) (x y : List ℕ) (ys : List (List ℕ)) → member x (choose b (y ∷ ys) ys) ≡ ((b and alike y x) or member x ys)
unfolding member choose ◌and◌ ◌or◌
member_choose true x y ys = refl
member_choose false x y ys = refl

module _ (sort : Sort) (first place : ℕ) (xs : List ℕ) where
  -- the number of the record at the place
  abbrev own : List ℕ
  own = held (record_at first place xs) (numbering sort)

  -- the records from k on, up to the place, decide
  unfoldable pub Ahead : ℕ → Type 0
  Ahead k = member own (numbers sort (cut first place xs)) ≡ member own (numbers sort (onward first k (place - k) xs))

  pub ahead_none : Ahead 0
  unfolding Ahead
  ahead_none =
      let e : place - 0 ≡ place = omega arith in
      rw (e, ← cut_start first place xs)

  module _ (k : ℕ) (h : k < place) (r : Bool) (q : r ≡ (is_of sort (record_at first k xs) and alike (held (record_at first k xs) (numbering sort)) own)) where
    front : member own (numbers sort (onward first k (place - k) xs)) ≡ (r or member own (numbers sort (onward first (k + 1) (place - (k + 1)) xs)))
    unfolding numbers
    front =
        let e : place - k ≡ suc (place - (k + 1)) = omega arith in
        rw (e, cut_onward first k (place - (k + 1)) xs, q) (member_choose (is_of sort (record_at first k xs)) own _ _)

    pub ahead_next : r ≡ false → Ahead k → Ahead (k + 1)
    unfolding Ahead
    ahead_next t a = a ∙ front ∙ sym (or_no r _ _ t refl)

    pub ahead_stop : r ≡ true → is_of sort (record_at first place xs) ≡ true → Ahead k → true ≡ repeats sort (cut first place xs) (record_at first place xs)
    unfolding Ahead repeats
    ahead_stop t o a = and_yes _ _ true o (or_yes r _ t ∙ sym front ∙ sym a)

  pub ahead_end : (k : ℕ) → place ≤ k → is_of sort (record_at first place xs) ≡ true → Ahead k → false ≡ repeats sort (cut first place xs) (record_at first place xs)
  unfolding Ahead repeats numbers cut member
  ahead_end k h o a =
      let e : place - k ≡ 0 = omega arith in
      and_yes _ _ false o (sym (a ∙ rw e))

pub not_of : (sort : Sort) (first place : ℕ) (xs : List ℕ) → is_of sort (record_at first place xs) ≡ false → false ≡ repeats sort (cut first place xs) (record_at first place xs)
unfolding repeats ◌and◌
not_of sort first place xs e = rw e
