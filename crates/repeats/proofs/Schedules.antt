-- What is known of batches' schedule numbers, from one batch to the next.
-- Assumes nothing.
use mathlib.Core.Path.{◌≡◌, refl, sym, ap, ◌∙◌}
use mathlib.Core.Bool.{Bool, true, false, not, true≢false}
use mathlib.Core.List.{List, ◌∷◌, ◌++◌, []}
use Prim.Native.Nat.{ℕ, suc, ◌+◌, ◌-◌, ◌*◌, ◌/◌, ◌<◌, ◌≤◌}
use native.Mathlib.Omega.{arith}
use lib.Dec.{eqb}
use lib.ListN.{length, drop, get_or}
use Rattle.record.specs.Choice.{◌and◌, ◌or◌, choose}
use Rattle.page.specs.CodePage.{shown}
use Rattle.record.specs.Ordering.{order, is_after}
use Rattle.page.proofs.Shown.{shown_length}
use Rattle.nesting.specs.Records.{cut, record_at}
use Rattle.nesting.proofs.Cuts.{cut_onward, cut_snoc}
use Rattle.repeats.specs.declared.Sort.TheVariants.{Batches}
use Rattle.tables.specs.Tables.{member}
use Rattle.repeats.specs.Repeats.{numbers, Topped}
use Rattle.repeats.specs.Schedules.{flags_of, Noted, numbers_before, numbers_from, number_at, Batched, goes_up, falls, numbered, flagged}
use Rattle.repeats.proofs.Greatest.{topped_miss, topped_raise}
use Rattle.repeats.proofs.Looks.{numbers_snoc}

-- a flag tells what it was made of
told : (t : Bool) → eqb (choose t 1 0) 1 ≡ t
unfolding choose
told true = refl
told false = refl

-- what is known between numbers, the next of which stands after the greatest, or not
noted_up : (earlier later : List (List ℕ)) (y greatest flags : List ℕ) → is_after (order y greatest) ≡ true → Topped greatest earlier
    → Noted (earlier ++ y ∷ []) later y false flags
noted_up earlier later y greatest flags a t = record { rising = λ e. topped_raise greatest y earlier t a; marks = λ e. absurd (true≢false (sym e)) }

noted_marked : (earlier later : List (List ℕ)) (y greatest flags : List ℕ) → flags ≡ flags_of earlier (y ∷ later)
    → Noted (earlier ++ y ∷ []) later greatest true (drop 1 flags)
unfolding flags_of
noted_marked earlier later y greatest flags e = record { rising = λ q. absurd (true≢false q); marks = λ q. rw e }

-- there is a flag for each number
flags_length : (earlier later : List (List ℕ)) → length (flags_of earlier later) ≡ length later
unfolding flags_of
flags_length earlier [] = refl
flags_length earlier (y ∷ ys) = ap suc (flags_length (earlier ++ y ∷ []) ys)

-- where it stands among the bytes that were sent
module _ (ascii : Bool) (sent : List ℕ) (place : ℕ) (flags : List ℕ) (b : Batched (shown ascii sent) place flags) where
  pub batched_within : place * 850 + 850 ≤ length sent
  batched_within = omega (arith, b.within, shown_length ascii sent)

  pub batched_few : length sent ≤ 65535 * 850
  batched_few = omega (arith, b.few, shown_length ascii sent)

  pub batched_small : 1 + place < 131072
  batched_small = omega (arith, b.within, b.few)

module _ (file : List ℕ) (place : ℕ) {flags : List ℕ} (b : Batched file place flags) where
  -- the batch's number is the first from its place on, and the last before the next
  pub from_next : numbers_from file place ≡ number_at file place ∷ numbers_from file (place + 1)
  unfolding numbers_from numbers choose
  from_next =
      let e : length file / 850 - place ≡ suc (length file / 850 - (place + 1)) = omega (arith, b.within) in
      rw (e, cut_onward 1 place (length file / 850 - (place + 1)) file, b.header)

  pub before_next : numbers_before file (place + 1) ≡ numbers_before file place ++ number_at file place ∷ []
  unfolding numbers_before choose
  before_next = rw (cut_snoc 1 place file, numbers_snoc Batches (cut 1 place file) (record_at 1 place file), b.header)

  -- so there is a flag, and the first is its own
  pub some_flag : 0 < length flags
  some_flag = rw (b.size, from_next) (omega arith)

  first_flag : (fs : List ℕ) → fs ≡ flags_of (numbers_before file place) (numbers_from file place) → eqb (get_or fs 0 0) 1 ≡ member (number_at file place) (numbers_before file place)
  unfolding flags_of
  first_flag fs e = rw (e, from_next) (told (member (number_at file place) (numbers_before file place)))

  pub flagged_length : (greatest : List ℕ) (marked : Bool) → length (flagged file place greatest marked flags) ≡ length flags
  unfolding flagged choose
  flagged_length greatest marked = go (falls file place greatest marked)
    where
      go : (t : Bool) → length (choose t (flags_of (numbers_before file place) (numbers_from file place)) flags) ≡ length flags
      go true = flags_length (numbers_before file place) (numbers_from file place) ∙ sym b.size
      go false = refl

  module _ (greatest : List ℕ) (marked : Bool) (n : Noted (numbers_before file place) (numbers_from file place) greatest marked flags) where
    abbrev rises : Bool
    rises = is_after (order (number_at file place) greatest)

    -- the batches are marked
    pub tell_marked : marked ≡ true → record { repeats = eqb (get_or flags 0 0) 1; greatest = greatest; marked = marked } ≡ numbered file place greatest marked
    unfolding numbered goes_up falls choose ◌and◌ ◌or◌
    tell_marked m = rw (first_flag flags (n.marks m), m)

    pub after_marked : marked ≡ true → flags ≡ flagged file place greatest marked flags
    unfolding flagged falls choose ◌and◌
    after_marked m = rw m

    -- the number rises
    pub tell_up : (x : List ℕ) → x ≡ number_at file place → marked ≡ false → rises ≡ true → record { repeats = false; greatest = x; marked = marked } ≡ numbered file place greatest marked
    unfolding numbered goes_up falls choose ◌and◌ ◌or◌
    tell_up x e m a = rw (topped_miss greatest (number_at file place) (numbers_before file place) (n.rising m) a, m, a, e)

    pub after_up : marked ≡ false → rises ≡ true → flags ≡ flagged file place greatest marked flags
    unfolding flagged falls choose ◌and◌
    after_up m a = rw (m, a)

    -- it does not
    module _ (m : marked ≡ false) (a : rises ≡ false) (fs : List ℕ) (e : fs ≡ flags_of (numbers_before file place) (numbers_from file place)) where
      pub tell_down : record { repeats = eqb (get_or fs 0 0) 1; greatest = greatest; marked = true } ≡ numbered file place greatest marked
      unfolding numbered goes_up falls choose ◌and◌ ◌or◌
      tell_down = rw (first_flag fs e, m, a)

      pub after_down : fs ≡ flagged file place greatest marked flags
      unfolding flagged falls choose ◌and◌
      after_down = rw (m, a) e

    -- what is known of the next
    pub noted_next : Noted (numbers_before file (place + 1)) (numbers_from file (place + 1)) (numbered file place greatest marked).greatest (numbered file place greatest marked).marked (drop 1 (flagged file place greatest marked flags))
    unfolding numbered flagged goes_up falls choose ◌and◌ ◌or◌
    noted_next = rw before_next (go marked rises refl refl)
      where
        go : (m r : Bool) → marked ≡ m → rises ≡ r
            → Noted (numbers_before file place ++ number_at file place ∷ []) (numbers_from file (place + 1)) (choose (not m and r) (number_at file place) greatest) (m or (not m and not r))
            (drop 1 (choose (not m and not r) (flags_of (numbers_before file place) (numbers_from file place)) flags))
        go true r e f = noted_marked (numbers_before file place) (numbers_from file (place + 1)) (number_at file place) greatest flags (rw (← from_next) (n.marks e))
        go false true e f = noted_up (numbers_before file place) _ (number_at file place) greatest _ f (n.rising e)
        go false false e f = noted_marked (numbers_before file place) (numbers_from file (place + 1)) (number_at file place) greatest (flags_of (numbers_before file place) (numbers_from file place)) (rw (← from_next))
