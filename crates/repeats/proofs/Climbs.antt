-- A climb of Payment IDs: one record more, and one that never falls has no repeat.
-- Assumes nothing.
use Rattle.std.specs.Prelude.{Some, None}
use mathlib.Core.Path.{◌≡◌, refl, sym, ◌∙◌}
use mathlib.Core.Bool.{Bool, true, false, true≢false}
use mathlib.Core.List.{List, [], ◌∷◌, ◌++◌, append-nil}
use Prim.Native.Nat.{ℕ, ◌+◌}
use Rattle.record.specs.declared.codes.Code.{Code}
use Rattle.record.specs.Choice.{◌and◌, choose}
use Rattle.record.specs.Value.{held}
use Rattle.record.specs.Ordering.{order, is_after}
use Rattle.record.specs.Codes.{code_of, is_detail}
use Rattle.record.proofs.Chain.{choose_yes, choose_no}
use Rattle.nesting.specs.Division.{Record}
use Rattle.repeats.specs.declared.Sort.TheVariants.{Payments}
use Rattle.repeats.specs.declared.climb.Climbing.{Climbing}
use Rattle.tables.specs.Tables.{member}
use Rattle.repeats.specs.Repeats.{numbering, is_of, numbers, repeats, first_repeat, Topped}
use Rattle.repeats.specs.Climb.{climbed, climbed_by}
use Rattle.repeats.proofs.Greatest.{topped_miss, topped_raise}
use Rattle.repeats.proofs.Looks.{numbers_snoc}

-- the results of one record more
module _ (r : Record) (known : Climbing) where
  pub climb_fallen : known.falls ≡ true → known ≡ climbed r known
  unfolding climbed
  climb_fallen f = choose_yes _ _ _ known f refl

  module _ (f : known.falls ≡ false) where
    pub climb_other : is_of Payments r ≡ false → known ≡ climbed r known
    unfolding climbed
    climb_other o = choose_no _ _ _ known f (choose_no _ _ _ known o refl)

    module _ (k : Code) (e : k ≡ code_of r) where
      pub climb_past : is_detail k ≡ false → known ≡ climbed r known
      unfolding is_of
      climb_past o = climb_other (rw (← e) o)

      module _ (o : is_detail k ≡ true) where
        is_one : is_of Payments r ≡ true
        unfolding is_of
        is_one = rw (← e) o

        pub climb_up : (x : List ℕ) → x ≡ held r (numbering Payments) → is_after (order (held r (numbering Payments)) known.greatest) ≡ true
            → record { falls = false; greatest = x } ≡ climbed r known
        unfolding climbed
        climb_up x q a = choose_no _ _ _ _ f (choose_yes _ _ _ _ is_one (choose_yes _ _ _ _ a (rw q)))

        pub climb_down : is_after (order (held r (numbering Payments)) known.greatest) ≡ false
            → record { falls = true; greatest = known.greatest } ≡ climbed r known
        unfolding climbed
        climb_down a = choose_no _ _ _ _ f (choose_yes _ _ _ _ is_one (choose_no _ _ _ _ a refl))

-- what does not fall repeats nothing, and the greatest stays the greatest
clean_by : (d a : Bool) (x : List ℕ) (known : Climbing) (ys : List (List ℕ)) → is_after (order x known.greatest) ≡ a → Topped known.greatest ys
    → (choose d (choose a (record { falls = false; greatest = x }) (record { falls = true; greatest = known.greatest })) known).falls ≡ false
    → ((d and member x ys) ≡ false)
    × Topped (choose d (choose a (record { falls = false; greatest = x }) (record { falls = true; greatest = known.greatest })) known).greatest (ys ++ choose d (x ∷ []) [])
unfolding choose ◌and◌
clean_by true true x known ys e t h = (topped_miss known.greatest x ys t e, topped_raise known.greatest x ys t e)
clean_by true false x known ys e t h = absurd (true≢false h)
clean_by false a x known ys e t h = (refl, rw (append-nil ys) t)

-- an ID that fell stays known
stays_fallen : (rs : List Record) (known : Climbing) → known.falls ≡ true → (climbed_by rs known).falls ≡ true
unfolding climbed_by
stays_fallen [] known f = f
stays_fallen (r ∷ rs) known f = stays_fallen rs (climbed r known) (rw (← climb_fallen r known f) f)

module _ (r : Record) (known : Climbing) (seen : List Record) (f : known.falls ≡ false) (t : Topped known.greatest (numbers Payments seen)) where
  clean : (climbed r known).falls ≡ false → (repeats Payments seen r ≡ false) × Topped (climbed r known).greatest (numbers Payments (seen ++ r ∷ []))
  unfolding climbed repeats choose
  clean =
      rw (f, numbers_snoc Payments seen r)
      (clean_by (is_of Payments r) (is_after (order (held r (numbering Payments)) known.greatest)) (held r (numbering Payments))
      (record { falls = false; greatest = known.greatest }) (numbers Payments seen) refl t)

-- a climb over records after those seen, none of which stands after the greatest: where no ID falls, none repeats
pub climb_clean : (n : ℕ) (seen rs : List Record) (known : Climbing) → known.falls ≡ false → Topped known.greatest (numbers Payments seen)
    → (climbed_by rs known).falls ≡ false → first_repeat Payments n seen rs ≡ None
unfolding first_repeat climbed_by choose
climb_clean n seen [] known f t e = refl
climb_clean n seen (r ∷ rs) known f t e = go (climbed r known).falls refl (λ g u. climb_clean (n + 1) (seen ++ r ∷ []) rs (climbed r known) g u e)
  where
    go : (b : Bool) → (climbed r known).falls ≡ b
        → ((climbed r known).falls ≡ false → Topped (climbed r known).greatest (numbers Payments (seen ++ r ∷ [])) → first_repeat Payments (n + 1) (seen ++ r ∷ []) rs ≡ None)
        → choose (repeats Payments seen r) (Some n) (first_repeat Payments (n + 1) (seen ++ r ∷ []) rs) ≡ None
    go true h later = absurd (true≢false (sym (stays_fallen rs (climbed r known) h) ∙ e))
    go false h later = let c = clean r known seen f t h in rw c.0 (later h c.1)
