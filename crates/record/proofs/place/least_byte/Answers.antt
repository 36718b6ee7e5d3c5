use mathlib.Core.Path.{◌∙◌}
use Prim.Native.Nat.{min}
use Rattle.std.proofs.Common.{rules, tests}
use Rattle.std.proofs.lemmas.Iterator.{YieldsList-from_slice}
use Rattle.std.proofs.lemmas.Iterator.Consumers.{fold_from_yields_List}
use Rattle.record.proofs.Chains.{least_fold}
use Rattle.record.proofs.place.least_byte.Goals as goal

pub returns : goal.returns
returns c =
    fold_from_yields_List _ (λ a x. min a x) _ _ c.fold.ensures.ran (YieldsList-from_slice c.args.bytes.now (cc)) (λ a x b q k. search (rules, tests))
    ∙ least_fold _ _
