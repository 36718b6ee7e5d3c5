use Prim.Native.Nat.{◌+◌, ◌-◌, ◌<◌}
use mathlib.Core.Path.{◌≡◌}
use native.Mathlib.Omega.{arith}
use Rattle.repeats.proofs.Marks.{giving_begun, giving_on, giving_end}
use Rattle.repeats.proofs.sieve.give_marks.Goals as goal

pub loop-init : goal.loop-init
loop-init c = giving_begun _ _

pub loop-preserved : goal.loop-preserved
loop-preserved c =
    let h : 0 < 7 - c.loop.counter = omega arith in
    let e : 7 - (c.loop.counter + 1) ≡ 7 - c.loop.counter - 1 = omega arith in
    rw e (giving_on _ _ _ c.loop.rest _ _ c.loop.invariant h c.mark.ensures)

pub returns : goal.returns
returns c = giving_end _ _ _ c.loop.rest _ c.loop.invariant (omega arith)
