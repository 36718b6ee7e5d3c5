-- One test after the other: the first reason that applies is found, and until then none does.
-- Assumes nothing.
use mathlib.Core.Path.{◌≡◌, refl, sym, ◌∙◌, subst}
use mathlib.Core.Bool.{Bool, true, false, true≢false}
use mathlib.Core.List.{List, [], ◌∷◌, ◌++◌, append_assoc}
use Prim.Native.Nat.{ℕ, ◌%◌, ◌≤◌}
use native.Mathlib.Omega.{arith}
use lib.Dec.{eqb, ltb}
use borrow.Author.Tests.{eqb-true, eqb-false, ltb-true, ltb-false}
use lib.ListN.{length}
use Rattle.std.specs.Prelude.{Option, Some, None, Err}
use Rattle.record.specs.Choice.{◌or◌, choose}
use Rattle.nesting.specs.Records.{Cuttable}
use Rattle.verdict.specs.declared.reason.Reason.{Reason}
use Rattle.verdict.specs.Answer.{number_of, stated, refusal, Applies, Names, NoneOf, Refused, Judgement}
use Rattle.verdict.specs.declared.reason.Reason.TheVariants.{Empty, Ragged, TooLong}
use Rattle.verdict.specs.Answer.Judgement.{refused}
use Rattle.verdict.specs.Order.{length_reason, from_book, Clear}
use Rattle.verdict.proofs.Numbers.{among, all_stated, one_reason}

module _ (file book today : List ℕ) (room : ℕ) where
  -- none is tested yet
  pub clear_start : Clear file book today room stated
  clear_start = record { earlier = []; order = refl; none = tt }

  -- one more does not apply
  none_more : (js : List Reason) (k : Reason) → NoneOf file book today room js → (Applies file book today room k → ⊥) → NoneOf file book today room (js ++ k ∷ [])
  none_more [] k n m = (m, tt)
  none_more (j ∷ js) k n m = (n.0, none_more js k n.1 m)

  pub clear_next : (k : Reason) {left : List Reason} → Clear file book today room (k ∷ left) → (Applies file book today room k → ⊥) → Clear file book today room left
  clear_next k {left} c n =
      record {
        earlier = c.earlier ++ k ∷ [];
        order = c.order ∙ sym (append_assoc c.earlier (k ∷ []) left);
        none = none_more c.earlier k c.none n;
      }

  -- a reason that is not left does not apply
  not_left : (js left : List Reason) (k : Reason) → among k (js ++ left) ≡ true → among k left ≡ false → NoneOf file book today room js → Applies file book today room k → ⊥
  unfolding among ◌or◌
  not_left [] left k e f n a = true≢false (sym e ∙ f)
  not_left (j ∷ js) left k e f n a = go (eqb (number_of k) (number_of j)) refl e (λ e. not_left js left k e f n.1 a)
    where
      go : (b : Bool) → eqb (number_of k) (number_of j) ≡ b → (b or among k (js ++ left)) ≡ true → (among k (js ++ left) ≡ true → ⊥) → ⊥
      go true q e rest = n.0 (subst (λ (i : Reason). Applies file book today room i) (one_reason k j (eqb-true _ _ q)) a)
      go false q e rest = rest e

  pub clear_of : {left : List Reason} → Clear file book today room left → (k : Reason) → among k left ≡ false → Applies file book today room k → ⊥
  clear_of {left} c k f = not_left c.earlier left k (subst (λ (js : List Reason). among k js ≡ true) c.order (all_stated k)) f c.none

  -- the first that applies is given
  pub given : (k : Reason) (m : ℕ) {left : List Reason} → Clear file book today room (k ∷ left) → Applies file book today room k → Names file book today room k m → Refused file book today room k m
  given k m {left} c a n = record { applies = a; earlier = c.earlier; later = left; order = c.order; first = c.none; names = n }

  -- what tests up to those left come to: the first reason that applies, which names m, or none
  pub data Tested (left : List Reason) (m : ℕ) : Option Reason → Type 0 where
    passed : Clear file book today room left → Tested left m None
    found : (k : Reason) → Refused file book today room k m → Tested left m (Some k)

  -- a test that holds where its reason applies, and one that holds where it does not
  pub where_holds : {left : List Reason} {m : ℕ} (k : Reason) {next : List Reason} (b : Bool) (r : Option Reason) → Clear file book today room (k ∷ next) → Names file book today room k m
      → (b ≡ true → Applies file book today room k) → (b ≡ false → Applies file book today room k → ⊥)
      → (Clear file book today room next → Tested left m r) → Tested left m (choose b (Some k) r)
  unfolding choose
  where_holds {m} k true r c s y o rest = found k (given k m c (y refl) s)
  where_holds k false r c s y o rest = rest (clear_next k c (o refl))

  pub where_fails : {left : List Reason} {m : ℕ} (k : Reason) {next : List Reason} (b : Bool) (r : Option Reason) → Clear file book today room (k ∷ next) → Names file book today room k m
      → (b ≡ false → Applies file book today room k) → (b ≡ true → Applies file book today room k → ⊥)
      → (b ≡ true → Clear file book today room next → Tested left m r) → Tested left m (choose b r (Some k))
  unfolding choose
  where_fails {m} k false r c s y o rest = found k (given k m c (y refl) s)
  where_fails k true r c s y o rest = rest refl (clear_next k c (o refl))

  -- what was tested is known by what it came to
  pub clear_by : {left : List Reason} {m : ℕ} {r : Option Reason} → Tested left m r → r ≡ None → Clear file book today room left
  clear_by (passed c) e = c
  clear_by (found k p) e = absurd (cc)

  pub refused_by : {left : List Reason} {m : ℕ} {r : Option Reason} → Tested left m r → (k : Reason) → r ≡ Some k → Judgement file book today room (Err (refusal k m))
  refused_by (passed c) k e = absurd (cc)
  refused_by {m} (found j p) k e = let q : j ≡ k = cc in rw (← q) (refused j m p)

  -- by the file's length
  pub lengths : Tested from_book 0 (length_reason (length file))
  unfolding length_reason stated
  lengths =
      where_holds Empty (eqb (length file) 0) _ clear_start refl (eqb-true _ _) (eqb-false _ _) (λ c.
      where_fails Ragged (eqb (length file % 850) 0) _ c refl (eqb-false _ _) (λ t n. n (eqb-true _ _ t)) (λ t c.
      where_holds TooLong (ltb 55704750 (length file)) None c refl (ltb-true _ _) (λ f a. omega (arith, a, ltb-false 55704750 (length file) f)) passed))

  -- what that leaves
  pub cuttable : Clear file book today room from_book → Cuttable file
  unfolding among number_of ◌or◌
  cuttable c = record { whole = whole (eqb (length file % 850) 0) refl; few = few (ltb 55704750 (length file)) refl }
    where
      whole : (b : Bool) → eqb (length file % 850) 0 ≡ b → length file % 850 ≡ 0
      whole true e = eqb-true _ _ e
      whole false e = absurd (clear_of c Ragged refl (eqb-false _ _ e))

      few : (b : Bool) → ltb 55704750 (length file) ≡ b → length file ≤ 55704750
      few true e = absurd (clear_of c TooLong refl (ltb-true _ _ e))
      few false e = ltb-false _ _ e
