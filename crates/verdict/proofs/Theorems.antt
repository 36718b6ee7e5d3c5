-- One verdict only, for the same file, book, day and room.
-- Assumes nothing.
use mathlib.Core.Path.{◌≡◌, sym, ◌∙◌, ap, subst}
use mathlib.Core.List.{List, [], ◌∷◌, ◌++◌}
use Prim.Native.Nat.{ℕ}
use Rattle.book.proofs.Chains.{lists_one}
use Rattle.std.specs.Prelude.{Result, Err}
use Rattle.nesting.specs.declared.Counts.{Counts}
use Rattle.nesting.specs.Records.{records}
use Rattle.nesting.specs.Promise.{Nested}
use Rattle.nesting.proofs.OneDivision.{one_division}
use Rattle.nesting.proofs.Theorems.{one_answer}
use Rattle.verdict.specs.declared.Accepted.{Accepted}
use Rattle.verdict.specs.declared.Refusal.{Refusal}
use Rattle.verdict.specs.declared.reason.Reason.{Reason}
use Rattle.verdict.specs.Answer.{refusal, Applies, Names, NoneOf, Refused, Judgement}
use Rattle.verdict.specs.declared.reason.Reason.TheVariants.{Empty, Ragged, TooLong, BookUnsound, NoDay, Nesting, ReportShort, LowByte, InputSystem, Version, TrailerDigits, RecordCount, PaymentCount, TotalAmount}
use Rattle.verdict.specs.Answer.Judgement.{refused, accepted}

module _ (file book today : List ℕ) (room : ℕ) where
  -- a reason names one record
  one_record : (k : Reason) (m n : ℕ) → Names file book today room k m → Names file book today room k n → m ≡ n
  one_record Empty m n p q = p ∙ sym q
  one_record Ragged m n p q = p ∙ sym q
  one_record TooLong m n p q = p ∙ sym q
  one_record BookUnsound m n p q = p ∙ sym q
  one_record NoDay m n p q = p ∙ sym q
  one_record Nesting m n p q = (let e : ◌≡◌ {A = Result Counts ℕ} (Err m) (Err n) = one_answer (records file) (Err m) (Err n) (Nested.refused m p) (Nested.refused n q) in cc)
  one_record ReportShort m n p q = p ∙ sym q
  one_record LowByte m n p q = cc
  one_record InputSystem m n p q = p ∙ sym q
  one_record Version m n p q = p ∙ sym q
  one_record TrailerDigits m n p q = p ∙ sym q
  one_record RecordCount m n p q = p ∙ sym q
  one_record PaymentCount m n p q = p ∙ sym q
  one_record TotalAmount m n p q = p ∙ sym q

  -- of two places in one order, before which nothing applies, the reasons are one
  pub same_place : (is js xs ys : List Reason) (k j : Reason) → is ++ k ∷ xs ≡ js ++ j ∷ ys → NoneOf file book today room is → NoneOf file book today room js
      → Applies file book today room k → Applies file book today room j → k ≡ j
  same_place [] [] xs ys k j e m n p q = cc
  same_place [] (b ∷ js) xs ys k j e m n p q = let s : k ≡ b = cc in absurd (n.0 (subst (λ (i : Reason). Applies file book today room i) s p))
  same_place (a ∷ is) [] xs ys k j e m n p q = let s : j ≡ a = cc in absurd (m.0 (subst (λ (i : Reason). Applies file book today room i) s q))
  same_place (a ∷ is) (b ∷ js) xs ys k j e m n p q = let s : is ++ k ∷ xs ≡ js ++ j ∷ ys = cc in same_place is js xs ys k j s m.1 n.1 p q

  one_refusal : (k j : Reason) (m n : ℕ) → Refused file book today room k m → Refused file book today room j n → refusal k m ≡ refusal j n
  one_refusal k j m n p q =
      let e : k ≡ j = same_place p.earlier q.earlier p.later q.later k j (sym p.order ∙ q.order) p.first q.first p.applies q.applies in
      let s : m ≡ n = one_record j m n (subst (λ (i : Reason). Names file book today room i m) e p.names) q.names in
      rw (e, s)

  pub one_judgement : (v w : Result Accepted Refusal) → Judgement file book today room v → Judgement file book today room w → v ≡ w
  one_judgement v w (refused k m p) (refused j n q) = ap Err (one_refusal k j m n p q)
  one_judgement v w (refused k m p) (accepted n c l d h) = absurd (n k p.applies)
  one_judgement v w (accepted n c l d h) (refused k m p) = absurd (n k p.applies)
  one_judgement v w (accepted n c l d h) (accepted o b i e g) = rw (lists_one book c b l i, one_division (records file) d e h g)
