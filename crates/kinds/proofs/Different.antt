-- How many different ones there are among kinds: at most as many as there are kinds, and one where all are alike.
-- Assumes nothing.
use mathlib.Core.Path.{◌≡◌, refl, sym, ◌∙◌}
use mathlib.Core.Bool.{Bool, true, false}
use mathlib.Core.List.{List, [], ◌∷◌, ◌++◌}
use Prim.Native.Nat.{ℕ, zero, suc, ◌+◌, ◌≤◌}
use native.Mathlib.Omega.{arith}
use borrow.Author.Tests.{le-ltb}
use lib.ListN.{length, replicate}
use Rattle.record.specs.Choice.{◌or◌, choose}
use Rattle.record.proofs.Same.{alike_self}
use Rattle.tables.specs.Tables.{member}
use Rattle.tables.proofs.Tables.{member_again}
use Rattle.kinds.specs.Kinds.{different, crowded}

-- a kind that is there already, and one that is not
pub different_known : (earlier : List (List ℕ)) (k : List ℕ) (ks : List (List ℕ)) → member k earlier ≡ true → different earlier (k ∷ ks) ≡ different (earlier ++ k ∷ []) ks
unfolding different choose
different_known earlier k ks e = rw e (omega arith)

pub different_new : (earlier : List (List ℕ)) (k : List ℕ) (ks : List (List ℕ)) → member k earlier ≡ false → different earlier (k ∷ ks) ≡ 1 + different (earlier ++ k ∷ []) ks
unfolding different choose
different_new earlier k ks e = rw e refl

-- no more than there are
pub different_few : (earlier ks : List (List ℕ)) → different earlier ks ≤ length ks
unfolding different
different_few earlier [] = omega arith
different_few earlier (k ∷ ks) = go (member k earlier) refl (different_few (earlier ++ k ∷ []) ks)
  where
    go : (b : Bool) → member k earlier ≡ b → different (earlier ++ k ∷ []) ks ≤ length ks → different earlier (k ∷ ks) ≤ suc (length ks)
    go true e h = omega (arith, different_known earlier k ks e)
    go false e h = omega (arith, different_new earlier k ks e)

-- one kind again and again
again : (k : List ℕ) (n : ℕ) (earlier : List (List ℕ)) → member k earlier ≡ true → different earlier (replicate n k) ≡ 0
unfolding different
again k zero earlier e = refl
again k (suc n) earlier e = different_known earlier k (replicate n k) e ∙ again k n (earlier ++ k ∷ []) (sym (member_again k k earlier e) ∙ e)

pub one_kind : (k : List ℕ) (n : ℕ) → different [] (replicate n k) ≤ 1
unfolding different member ◌or◌
one_kind k zero = omega arith
one_kind k (suc n) =
    let e : different (k ∷ []) (replicate n k) ≡ 0 = again k n (k ∷ []) (rw (alike_self k)) in
    omega (arith, e, different_new [] k (replicate n k) refl)

-- at most 1,000 of them are not too many
pub few_uncrowded : (ks : List (List ℕ)) → different [] ks ≤ 1000 → crowded ks ≡ false
unfolding crowded
few_uncrowded ks h = le-ltb 1000 (different [] ks) h
