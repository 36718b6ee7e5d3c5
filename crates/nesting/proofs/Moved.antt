-- Moving values inside their fields changes no nesting (02 W3): an answer rests on the codes of the records and on what their Payment IDs hold.
-- Assumes nothing.
use mathlib.Core.Path.{◌≡◌, refl, sym, ap, ◌∙◌}
use mathlib.Core.Bool.{Bool}
use mathlib.Core.List.{List, [], ◌∷◌}
use Prim.Native.Nat.{ℕ, ◌+◌}
use Rattle.record.specs.declared.codes.Code.{Code}
use Rattle.record.specs.Choice.{choose}
use Rattle.record.specs.Codes.{code_of}
use Rattle.record.specs.Fields.{payment_id}
use Rattle.record.specs.Value.{held}
use Rattle.nesting.specs.declared.reader.State.{State}
use Rattle.nesting.specs.declared.Counts.{Counts}
use Rattle.std.specs.Prelude.{Result, Err}
use Rattle.nesting.specs.Division.{Record, All, Whole}
use Rattle.nesting.specs.Promise.{Nested}
use Rattle.nesting.specs.Reader.{fits, next, start, follows, after, read_on}
use Rattle.nesting.proofs.Answer.{answer}
use Rattle.nesting.proofs.Theorems.{one_answer}

-- the two have one code and hold one Payment ID
pub record Same (r q : Record) : Type 0 where
  pub code : code_of r ≡ code_of q
  pub id : held r payment_id ≡ held q payment_id

-- one by one
abbrev pub AllSame : List Record → List Record → Type 0
AllSame [] [] = Unit {0}
AllSame [] (q ∷ qs) = ⊥
AllSame (r ∷ rs) [] = ⊥
AllSame (r ∷ rs) (q ∷ qs) = Same r q × AllSame rs qs

module _ (s : State) (r q : Record) (h : Same r q) where
  same_follows : follows s r ≡ follows s q
  unfolding follows
  same_follows = ap (λ (c : Code). fits s c (held r payment_id)) h.code ∙ ap (fits s (code_of q)) h.id

  same_after : after s r ≡ after s q
  unfolding after
  same_after = ap (λ (c : Code). next s c (held r payment_id)) h.code ∙ ap (next s (code_of q)) h.id

moved_read : (s : State) (n : ℕ) (rs qs : List Record) → AllSame rs qs → read_on s n rs ≡ read_on s n qs
unfolding read_on
moved_read s n [] [] h = refl
moved_read s n [] (q ∷ qs) h = absurd h
moved_read s n (r ∷ rs) [] h = absurd h
moved_read s n (r ∷ rs) (q ∷ qs) h =
    ap (λ (t : Bool). choose t (read_on (after s r) (n + 1) rs) (Err (n + 1))) (same_follows s r q h.0)
    ∙ ap (λ (v : Result Counts ℕ). choose (follows s q) v (Err (n + 1))) (ap (λ (t : State). read_on t (n + 1) rs) (same_after s r q h.0) ∙ moved_read (after s q) (n + 1) rs qs h.1)

-- two files of such records draw one answer: both have a legal division, with as many batches and payments, or both are refused at one record
pub moved_nesting : (rs qs : List Record) → All Whole rs → All Whole qs → AllSame rs qs → (v w : Result Counts ℕ) → Nested rs v → Nested qs w → v ≡ w
moved_nesting rs qs a b h v w n m =
    one_answer rs v (read_on start 0 rs) n (answer rs a) ∙ moved_read start 0 rs qs h ∙ sym (one_answer qs w (read_on start 0 qs) m (answer qs b))
