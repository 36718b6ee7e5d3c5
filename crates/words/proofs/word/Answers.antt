use native.Mathlib.Omega.{arith}
use Rattle.words.proofs.Weights.{weighed_none, weighed_next, weighed_end, eight_long, room, grow}
use borrow.Author.Rules.{rules}
use Rattle.words.proofs.word.Goals as goal

pub loop-byte-init : goal.loop-byte-init
loop-byte-init c = (search rules, weighed_none _ _)

pub overflow_mul-number : goal.overflow_mul-number
overflow_mul-number c =
    let n = eight_long c.args.bytes.now c.args.from c.requires in
    omega (arith, room c.loop-byte.number c.loop-byte.byte-index c.loop-byte.invariant.0 (omega arith))

pub overflow_add-number : goal.overflow_add-number
overflow_add-number c =
    let n = eight_long c.args.bytes.now c.args.from c.requires in
    omega (arith, room c.loop-byte.number c.loop-byte.byte-index c.loop-byte.invariant.0 (omega arith), c.wide.ensures.1)

pub loop-byte-preserved : goal.loop-byte-preserved
loop-byte-preserved c =
    (grow _ _ _ c.loop-byte.invariant.0 c.wide.ensures.1, weighed_next _ _ _ _ _ c.loop-byte-test.true c.wide.ensures.0 c.loop-byte.invariant.1)

pub returns : goal.returns
returns c = weighed_end _ _ _ _ (search rules) c.loop-byte.invariant.1
