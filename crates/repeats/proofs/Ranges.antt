-- The records between two places, and whether a record has the number of one of them.
-- Assumes nothing.
use mathlib.Core.Path.{◌≡◌, refl, ap, ◌∙◌}
use mathlib.Core.Bool.{Bool, true, false}
use mathlib.Core.List.{List, [], ◌∷◌, ◌++◌}
use Prim.Native.Nat.{ℕ, zero, suc, ◌+◌, ◌-◌, ◌*◌, ◌≤◌}
use native.Mathlib.Omega.{arith}
use lib.ListN.{drop}
use lib.Seq.{drop-drop}
use Rattle.record.specs.Choice.{◌and◌, ◌or◌, choose}
use Rattle.record.specs.Value.{held}
use Rattle.record.specs.Tests.{alike}
use Rattle.record.proofs.Chain.{and_false}
use Rattle.nesting.specs.Division.{Record}
use Rattle.nesting.specs.Records.{cut, record_at}
use Rattle.tables.specs.Tables.{member}
use Rattle.repeats.specs.declared.Sort.{Sort}
use Rattle.repeats.specs.Repeats.{numbering, is_of, numbers, repeats}
use Rattle.repeats.specs.Blocks.{between, meets}
use Rattle.repeats.proofs.Looks.{choose_append, numbers_snoc}

-- the records before a place, and those from it on
cut_join : (n a b : ℕ) (xs : List ℕ) → cut n (a + b) xs ≡ cut n a xs ++ cut (n + a) b (drop (a * 850) xs)
unfolding cut
cut_join n zero b xs =
    let e : 0 + b ≡ b = omega arith in
    let f : n + 0 ≡ n = omega arith in
    rw (e, f)
cut_join n (suc a) b xs =
    let e : suc a + b ≡ suc (a + b) = omega arith in
    let f : n + 1 + a ≡ n + suc a = omega arith in
    let g : 850 + a * 850 ≡ suc a * 850 = omega arith in
    rw (e, cut_join (n + 1) a b (drop 850 xs), drop-drop (a * 850) 850 xs, f, g)

module _ (first : ℕ) (xs : List ℕ) where
  pub between_join : (from mid to : ℕ) → from ≤ mid → mid ≤ to → between first from to xs ≡ between first from mid xs ++ between first mid to xs
  between_join from mid to h l =
      let e : to - from ≡ mid - from + (to - mid) = omega arith in
      let f : first + from + (mid - from) ≡ first + mid = omega arith in
      let g : from * 850 + (mid - from) * 850 ≡ mid * 850 = omega arith in
      rw e (cut_join (first + from) (mid - from) (to - mid) (drop (from * 850) xs) ∙ rw (drop-drop ((mid - from) * 850) (from * 850) xs, f, g))

  between_one : (place : ℕ) → between first place (place + 1) xs ≡ record_at first place xs ∷ []
  unfolding cut record_at
  between_one place =
      let e : place + 1 - place ≡ 1 = omega arith in
      rw e

  -- one record more
  between_snoc : (from place : ℕ) → from ≤ place → between first from (place + 1) xs ≡ between first from place xs ++ record_at first place xs ∷ []
  between_snoc from place h = between_join from place (place + 1) h (omega arith) ∙ rw (between_one place)

-- the numbers of records side by side
pub numbers_append : (sort : Sort) (rs qs : List Record) → numbers sort (rs ++ qs) ≡ numbers sort rs ++ numbers sort qs
unfolding numbers
numbers_append sort [] qs = refl
numbers_append sort (r ∷ rs) qs = rw (numbers_append sort rs qs) (choose_append (is_of sort r) (held r (numbering sort)) (numbers sort rs) _)

or_chain : (a b c : Bool) → (a or (b or c)) ≡ ((a or b) or c)
unfolding ◌or◌
or_chain true b c = refl
or_chain false b c = refl

member_append : (x : List ℕ) (ys zs : List (List ℕ)) → member x (ys ++ zs) ≡ (member x ys or member x zs)
unfolding member ◌or◌
member_append x [] zs = refl
member_append x (y ∷ ys) zs = ap (λ (b : Bool). alike y x or b) (member_append x ys zs) ∙ or_chain (alike y x) (member x ys) (member x zs)

and_over : (d a b : Bool) → (d and (a or b)) ≡ ((d and a) or (d and b))
unfolding ◌and◌ ◌or◌
and_over true a b = refl
and_over false a b = refl

module _ (sort : Sort) (first : ℕ) (xs : List ℕ) where
  pub meets_join : (from mid to place : ℕ) → from ≤ mid → mid ≤ to
      → meets sort first xs from to place ≡ (meets sort first xs from mid place or meets sort first xs mid to place)
  unfolding meets
  meets_join from mid to place h l =
      rw (
        between_join first xs from mid to h l,
        numbers_append sort (between first from mid xs) (between first mid to xs),
        member_append (held (record_at first place xs) (numbering sort)) (numbers sort (between first from mid xs)) (numbers sort (between first mid to xs)),
      )
      (and_over (is_of sort (record_at first place xs)) _ _)

  pub meets_none : (from to place : ℕ) → to ≤ from → meets sort first xs from to place ≡ false
  unfolding meets cut numbers member
  meets_none from to place h =
      let e : to - from ≡ 0 = omega arith in
      rw e (and_false (is_of sort (record_at first place xs)))

  pub meets_all : (place : ℕ) → meets sort first xs 0 place place ≡ repeats sort (cut first place xs) (record_at first place xs)
  unfolding meets repeats
  meets_all place =
      let e : place - 0 ≡ place = omega arith in
      let f : first + 0 ≡ first = omega arith in
      rw (e, f)

  -- the numbers of one record more
  pub numbers_more : (from place : ℕ) → from ≤ place
      → numbers sort (between first from (place + 1) xs)
      ≡ numbers sort (between first from place xs) ++ choose (is_of sort (record_at first place xs)) (held (record_at first place xs) (numbering sort) ∷ []) []
  numbers_more from place h = rw (between_snoc first xs from place h) (numbers_snoc sort (between first from place xs) (record_at first place xs))
