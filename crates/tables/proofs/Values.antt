-- Values among others: which of them stand before one, and whether it is one of them.
-- Assumes nothing.
use mathlib.Core.Path.{◌≡◌, refl, sym, ap, ◌∙◌}
use mathlib.Core.Bool.{Bool, true, false, true≢false}
use mathlib.Core.List.{List, [], ◌∷◌, ◌++◌}
use Prim.Native.Nat.{ℕ, zero, suc, ◌≤◌, ◌<◌}
use native.Mathlib.Omega.{arith}
use lib.ListN.{length, get_or}
use Rattle.std.specs.declared.cmp.Ordering.{Ordering}
use Rattle.std.specs.declared.cmp.Ordering.TheVariants.{Less, Equal, Greater}
use Rattle.record.specs.Choice.{◌or◌, choose}
use Rattle.record.specs.Tests.{alike}
use Rattle.record.specs.Ordering.{order, is_before}
use Rattle.record.proofs.Same.{alike_equal, alike_self}
use Rattle.record.proofs.Orders.{order_equal, told_before, order_transitive}
use Rattle.tables.specs.Tables.{member, rank}

or_assoc : (a b c : Bool) → (a or (b or c)) ≡ ((a or b) or c)
unfolding ◌or◌
or_assoc true b c = refl
or_assoc false b c = refl

or_comm : (a b : Bool) → (a or b) ≡ (b or a)
unfolding ◌or◌
or_comm true true = refl
or_comm true false = refl
or_comm false true = refl
or_comm false false = refl

-- what the test of an order says of each
pub before_tells : (o : Ordering) → o ≡ Less → is_before o ≡ true
unfolding is_before
before_tells o e = rw e

pub after_tells : (o : Ordering) → o ≡ Greater → is_before o ≡ false
unfolding is_before
after_tells o e = rw e

pub same_tells : (o : Ordering) → o ≡ Equal → is_before o ≡ false
unfolding is_before
same_tells o e = rw e

module _ (x : List ℕ) where
  -- one value more counts the same wherever it stands
  pub member_between : (ys : List (List ℕ)) (y : List ℕ) (zs : List (List ℕ)) → member x (ys ++ y ∷ zs) ≡ (member x (ys ++ zs) or alike y x)
  unfolding member
  member_between [] y zs = or_comm (alike y x) (member x zs)
  member_between (z ∷ ys) y zs = ap (λ (b : Bool). alike z x or b) (member_between ys y zs) ∙ or_assoc (alike z x) (member x (ys ++ zs)) (alike y x)

  pub member_at : (ys : List (List ℕ)) (m : ℕ) → m < length ys → get_or ys m [] ≡ x → member x ys ≡ true
  unfolding member ◌or◌
  member_at [] m h e = absurd (omega arith)
  member_at (y ∷ ys) zero h e = rw (e, alike_self x)
  member_at (y ∷ ys) (suc m) h e = ap (λ (b : Bool). alike y x or b) (member_at ys m (omega arith) e) ∙ or_comm (alike y x) true

  pub member_none : (ys : List (List ℕ)) → ((j : ℕ) → j < length ys → get_or ys j [] ≡ x → ⊥) → member x ys ≡ false
  unfolding member ◌or◌
  member_none [] d = refl
  member_none (y ∷ ys) d = go (alike y x) refl (member_none ys (λ j l. d (suc j) (omega arith)))
    where
      go : (t : Bool) → alike y x ≡ t → member x ys ≡ false → (t or member x ys) ≡ false
      go true e m = absurd (d 0 (omega arith) (alike_equal y x e))
      go false e m = m

  pub missing : (ys : List (List ℕ)) → member x ys ≡ false → (j : ℕ) → j < length ys → get_or ys j [] ≡ x → ⊥
  missing ys e j h q = true≢false (sym (member_at ys j h q) ∙ e)

  -- the first m values stand before x, and none after them does
  pub record Parted (ys : List (List ℕ)) (m : ℕ) : Type 0 where
    pub size : m ≤ length ys
    pub below : (j : ℕ) → j < m → order (get_or ys j []) x ≡ Less
    pub from : (j : ℕ) → m ≤ j → j < length ys → is_before (order (get_or ys j []) x) ≡ false

  rank_no : (y : List ℕ) (ys : List (List ℕ)) → is_before (order y x) ≡ false → rank x ys ≡ rank x (y ∷ ys)
  unfolding rank choose
  rank_no y ys e = rw e (omega arith)

  rank_yes : (y : List ℕ) (ys : List (List ℕ)) → is_before (order y x) ≡ true → suc (rank x ys) ≡ rank x (y ∷ ys)
  unfolding rank choose
  rank_yes y ys e = rw e (omega arith)

  pub rank_size : (ys : List (List ℕ)) → rank x ys ≤ length ys
  unfolding rank
  rank_size [] = omega arith
  rank_size (y ∷ ys) = go (is_before (order y x)) refl (rank_size ys)
    where
      go : (t : Bool) → is_before (order y x) ≡ t → rank x ys ≤ length ys → rank x (y ∷ ys) ≤ suc (length ys)
      go true e h = omega (arith, rank_yes y ys e)
      go false e h = omega (arith, rank_no y ys e)

  -- so many stand before x
  pub parted_rank : (ys : List (List ℕ)) (m : ℕ) → Parted ys m → m ≡ rank x ys
  unfolding rank
  parted_rank [] m p = omega (arith, p.size)
  parted_rank (y ∷ ys) zero p =
      parted_rank ys 0 (record {
        size = omega arith;
        below = λ j l. absurd (omega arith);
        from = λ j l h. p.from (suc j) (omega arith) (omega arith);
      })
      ∙ rank_no y ys (p.from 0 (omega arith) (omega arith))
  parted_rank (y ∷ ys) (suc m) p =
      ap suc (parted_rank ys m (record {
        size = omega (arith, p.size);
        below = λ j l. p.below (suc j) (omega arith);
        from = λ j l h. p.from (suc j) (omega arith) (omega arith);
      }))
      ∙ rank_yes y ys (before_tells _ (p.below 0 (omega arith)))

  -- values that ascend are parted there
  pub rank_parted : (ys : List (List ℕ)) → ((i j : ℕ) → i < j → j < length ys → order (get_or ys i []) (get_or ys j []) ≡ Less) → Parted ys (rank x ys)
  unfolding rank is_before
  rank_parted [] up = record { size = omega arith; below = λ j l. absurd (omega arith); from = λ j l h. absurd (omega arith) }
  rank_parted (y ∷ ys) up = go (is_before (order y x)) refl (rank_parted ys (λ i j l h. up (suc i) (suc j) (omega arith) (omega arith)))
    where
      -- what follows a value that is not before x is not before it either
      later : is_before (order y x) ≡ false → (o : Ordering) (j : ℕ) → j < length ys → order (get_or ys j []) x ≡ o → is_before o ≡ false
      later f Less j h e = absurd (true≢false (sym (before_tells _ (order_transitive _ _ _ (up 0 (suc j) (omega arith) (omega arith)) e)) ∙ f))
      later f Equal j h e = refl
      later f Greater j h e = refl

      past : (m : ℕ) → order y x ≡ Less → Parted ys m → (j : ℕ) → j < suc m → order (get_or (y ∷ ys) j []) x ≡ Less
      past m e p zero l = e
      past m e p (suc j) l = p.below j (omega arith)

      rest : (m : ℕ) → Parted ys m → (j : ℕ) → suc m ≤ j → j < suc (length ys) → is_before (order (get_or (y ∷ ys) j []) x) ≡ false
      rest m p zero l h = absurd (omega arith)
      rest m p (suc j) l h = p.from j (omega arith) (omega arith)

      none : is_before (order y x) ≡ false → (j : ℕ) → j < suc (length ys) → is_before (order (get_or (y ∷ ys) j []) x) ≡ false
      none f zero h = f
      none f (suc j) h = later f _ j (omega arith) refl

      go : (t : Bool) → is_before (order y x) ≡ t → Parted ys (rank x ys) → Parted (y ∷ ys) (rank x (y ∷ ys))
      go true e p = rw (← rank_yes y ys e) (record { size = omega (arith, p.size); below = past _ (told_before _ e) p; from = rest _ p })
      go false e p =
          let n : 0 ≡ rank x ys = parted_rank ys 0 (record { size = omega arith; below = λ j l. absurd (omega arith); from = λ j l h. later e _ j h refl }) in
          rw (← rank_no y ys e, ← n) (record { size = omega arith; below = λ j l. absurd (omega arith); from = λ j l h. none e j h })

  -- where x is none of them, those from there on stand after it
  pub parted_after : (ys : List (List ℕ)) (m : ℕ) → Parted ys m → member x ys ≡ false → (j : ℕ) → m ≤ j → j < length ys → order (get_or ys j []) x ≡ Greater
  unfolding is_before
  parted_after ys m p e j l h = go _ refl (p.from j l h)
    where
      go : (o : Ordering) → order (get_or ys j []) x ≡ o → is_before o ≡ false → o ≡ Greater
      go Less q f = absurd (true≢false f)
      go Equal q f = absurd (missing ys e j h (order_equal _ _ q))
      go Greater q f = refl
