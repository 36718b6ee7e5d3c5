-- The entry's contract allows one result and one report afterwards for the same arguments: stated over the contract itself.
-- Assumes nothing.
use mathlib.Core.Path.{◌≡◌, refl, ap}
use mathlib.Core.List.{List}
use Prim.Native.Nat.{ℕ, ◌+◌, ◌*◌}
use lib.ListN.{length}
use Rattle.book.specs.Book.{Contents}
use Rattle.book.proofs.Chains.{lists_one}
use Rattle.nesting.specs.Division.{Division}
use Rattle.nesting.specs.Records.{records}
use Rattle.nesting.proofs.OneDivision.{one_division}
use Rattle.std.specs.Prelude.{Ok, Err}
use Rattle.verdict.specs.declared.Refusal.{Refusal}
use Rattle.verdict.specs.declared.reason.Reason.{Reason}
use Rattle.verdict.specs.Answer.{number_of, refusal, acceptance, Judgement}
use Rattle.verdict.proofs.Theorems.{one_judgement}
use Rattle.judge.specs.Judged.{Judged}
use Rattle.judge.proofs.srf_judge_with.Reads as srf-judge-with
use Rattle.judge.proofs.srf_judge.Reads as srf-judge

module _ (file book today report : List ℕ) where
  -- two refusals have one number
  refusals : (k j : Reason) (m i : ℕ) → Judgement file book today (length report) (Err (refusal k m)) → Judgement file book today (length report) (Err (refusal j i)) → number_of k * 100000 + m ≡ number_of j * 100000 + i
  refusals k j m i p q =
      let e : refusal k m ≡ refusal j i = cc (one_judgement file book today (length report) (Err (refusal k m)) (Err (refusal j i)) p q) in
      ap (λ (v : Refusal). number_of v.reason * 100000 + v.record_number) e

  -- no file is refused and accepted
  apart : (k : Reason) (m : ℕ) (c : Contents) (d : Division) → Judgement file book today (length report) (Err (refusal k m)) → Judgement file book today (length report) (Ok (acceptance c d)) → ⊥
  apart k m c d p q = cc (one_judgement file book today (length report) (Err (refusal k m)) (Ok (acceptance c d)) p q)

-- one number and one report
pub one_judged : (file book today report : List ℕ) (r s : ℕ) (x y : List ℕ) → Judged file book today report r x → Judged file book today report s y → (r ≡ s) × (x ≡ y)
one_judged file book today report r s x y (Judged.refused k m p) (Judged.refused j i q) =
    (refusals file book today report k j m i (Judgement.refused k m p) (Judgement.refused j i q), refl)
one_judged file book today report r s x y (Judged.refused k m p) (Judged.accepted n c l d h) =
    absurd (apart file book today report k m c d (Judgement.refused k m p) (Judgement.accepted n c l d h))
one_judged file book today report r s x y (Judged.accepted n c l d h) (Judged.refused k m p) =
    absurd (apart file book today report k m c d (Judgement.refused k m p) (Judgement.accepted n c l d h))
one_judged file book today report r s x y (Judged.accepted n c l d h) (Judged.accepted o b k e g) =
    (refl, rw (lists_one book c b l k, one_division (records file) d e h g))

-- the report afterwards is the last argument's: `x.1.1.1.0` and `y.1.1.1.0`
pub srf_judge_with_unique : (κs : _) (a : _) (r s : _) (x y : _) → srf-judge-with.Post κs a r x → srf-judge-with.Post κs a s y
    → (r ≡ s) × (x.1.1.1.0.now ≡ y.1.1.1.0.now)
srf_judge_with_unique κs a r s x y p q = one_judged _ _ _ _ r s _ _ p q

-- and here `x.1.1.0` and `y.1.1.0`
pub srf_judge_unique : (κs : _) (a : _) (r s : _) (x y : _) → srf-judge.Post κs a r x → srf-judge.Post κs a s y → (r ≡ s) × (x.1.1.0.now ≡ y.1.1.0.now)
srf_judge_unique κs a r s x y p q = one_judged _ _ _ _ r s _ _ p q
