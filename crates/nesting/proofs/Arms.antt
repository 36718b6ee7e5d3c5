-- What a known code says in an arm of a match: whether its record may come next, the state after it, and the room that it has.
-- Assumes nothing.
use mathlib.Core.Path.{◌≡◌, sym, ap, ◌∙◌}
use mathlib.Core.Bool.{Bool, true}
use mathlib.Core.List.{List}
use Prim.Native.Nat.{ℕ, ◌<◌}
use borrow.Author.Tests.{ltb-true}
use Rattle.record.specs.declared.codes.Code.{Code}
use Rattle.record.specs.declared.codes.Code.TheVariants.{Account, Procurement}
use Rattle.record.proofs.Chain.{and_left, and_right, and_yes, and_no, told}
use Rattle.nesting.specs.declared.reader.State.{State}
use Rattle.nesting.specs.Reader.{takes_account, takes_procurement, fits, next}

-- what is asked of a state, a code and a Payment ID is what is asked of the code that is known
coded : {A : Type 0} (f : State → Code → List ℕ → A) (s : State) (c d : Code) (id : List ℕ) (r : A) → c ≡ d → r ≡ f s d id → r ≡ f s c id
coded f s c d id r e h = h ∙ ap (λ (k : Code). f s k id) (sym e)

pub coded_fits : (s : State) (c d : Code) (id : List ℕ) (r : Bool) → c ≡ d → r ≡ fits s d id → r ≡ fits s c id
coded_fits = coded fits

pub coded_next : (s : State) (c d : Code) (id : List ℕ) (r : State) → c ≡ d → r ≡ next s d id → r ≡ next s c id
coded_next = coded next

-- there is room for one more DT, or one more DP, where it fits
pub account_room : (s : State) (c : Code) (id : List ℕ) → c ≡ Account → fits s c id ≡ true → s.accounts < 100
unfolding fits takes_account
account_room s c id e h = ltb-true _ _ (and_right _ _ (and_right _ _ (and_left _ _ (rw e at h))))

pub procurement_room : (s : State) (c : Code) (id : List ℕ) → c ≡ Procurement → fits s c id ≡ true → s.procurements < 100
unfolding fits takes_procurement
procurement_room s c id e h = ltb-true _ _ (and_right _ _ (and_left _ _ (rw e at h)))

-- what the arms of a match are worked out by
pub ruleset arms = (coded_fits, coded_next, and_yes, and_no, told)
