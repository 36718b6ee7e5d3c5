use Prim.Native.Nat.{◌+◌, ◌-◌, ◌<◌}
use mathlib.Core.Path.{◌≡◌}
use native.Mathlib.Omega.{arith}
use Rattle.record.proofs.Chain.{told}
use Rattle.repeats.proofs.Marks.{marks_begun, marks_missed, marks_met, marks_end}
use Rattle.repeats.proofs.sieve.has_marks.Goals as goal

pub loop-init : goal.loop-init
loop-init c = marks_begun _ _

pub returns-then-not-is_marked : goal.returns-then-not-is_marked
returns-then-not-is_marked c =
    let h : 0 < 7 - c.loop.counter = omega arith in
    marks_missed _ _ _ c.loop.rest c.loop.invariant h (told _ _ _ c.is_marked.ensures c.if-not-is_marked.true)

pub loop-preserved : goal.loop-preserved
loop-preserved c =
    let h : 0 < 7 - c.loop.counter = omega arith in
    let e : 7 - (c.loop.counter + 1) ≡ 7 - c.loop.counter - 1 = omega arith in
    rw e (marks_met _ _ _ c.loop.rest c.loop.invariant h (told _ _ _ c.is_marked.ensures c.if-not-is_marked.false))

pub returns : goal.returns
returns c = marks_end _ _ _ c.loop.rest c.loop.invariant (omega arith)
