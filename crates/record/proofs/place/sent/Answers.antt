use borrow.Author.Rules.{rules}
use mathlib.Core.Path.{ap, ◌∙◌}
use Prim.Native.Nat.{◌+◌, ◌-◌}
use native.Mathlib.Omega.{arith}
use lib.ListN.{length}
use Rattle.record.specs.Place.{Within}
use Rattle.record.proofs.Sent.{sent_part, sent_length}
use Rattle.record.proofs.place.sent.Goals as goal

pub overflow_add-result : goal.overflow_add-result
unfolding Within
overflow_add-result c = search rules

pub slice_bounds-result-end : goal.slice_bounds-result-end
unfolding Within
slice_bounds-result-end c = search rules

pub returns : goal.returns
returns c =
    let p = c.args.place in
    let e = sent_part c.args.rec.now p (p.start + p.width - p.start) (omega arith) in
    (e, ap length e ∙ sent_length _ _ c.requires)
