use Prim.Native.Nat.{max}
use lib.Bits.{bit_xor}
use Rattle.std.proofs.Common.{rules, tests}
use Rattle.std.proofs.lemmas.Iterator.{YieldsList-from_slice}
use Rattle.std.proofs.lemmas.Iterator.Consumers.{fold_from_yields_List}
use Rattle.record.proofs.Chains.{near_fold}
use Rattle.record.proofs.place.are_near.Goals as goal

pub returns : goal.returns
returns c =
    near_fold _ _ _
    (fold_from_yields_List _ (λ a x. max a (bit_xor x c.args.zero)) _ _ c.fold.ensures.ran (YieldsList-from_slice c.args.bytes.now (cc)) (λ a x b q k. search (rules, tests)))
