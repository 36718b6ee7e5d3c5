use borrow.Author.Rules.{rules}
use native.Mathlib.Omega.{arith}
use Prim.Native.Nat.{◌+◌, ◌-◌}
use mathlib.Core.Path.{◌≡◌}
use Rattle.record.proofs.Numbers.{read_none, read_next, read_end, room, grow}
use Rattle.record.proofs.Sent.{part_length, digit_told}
use Rattle.record.proofs.place.number.Goals as goal

pub slice_bounds-byte-items-end : goal.slice_bounds-byte-items-end
slice_bounds-byte-items-end c = search rules

pub loop-byte-init : goal.loop-byte-init
loop-byte-init c =
    let e : c.args.from + 0 ≡ c.args.from = omega arith in
    (search rules, rw e (read_none _ _ _))

pub overflow_mul-sum : goal.overflow_mul-sum
overflow_mul-sum c =
    let a = c.args in
    let p = c.requires in
    let n = part_length a.rec.now a.place p.0 a.from a.to p.1 p.2 c.sent.result.now c.sent.ensures.0 in
    omega (arith, room c.loop-byte.sum c.loop-byte.byte-index (a.to - a.from) c.loop-byte.invariant.0 (omega arith) p.3)

pub overflow_add-sum : goal.overflow_add-sum
overflow_add-sum c =
    let a = c.args in
    let p = c.requires in
    let l = c.loop-byte in
    let n = part_length a.rec.now a.place p.0 a.from a.to p.1 p.2 c.sent.result.now c.sent.ensures.0 in
    let d = digit_told a.rec.now a.place p.0 a.from a.to p.1 p.2 c.sent.result.now c.sent.ensures.0 l.byte-index c.loop-byte-test.true p.4 c.from.result c.from.ensures in
    omega (arith, room l.sum l.byte-index (a.to - a.from) l.invariant.0 (omega arith) p.3, d.1)

pub loop-byte-preserved : goal.loop-byte-preserved
loop-byte-preserved c =
    let a = c.args in
    let p = c.requires in
    let l = c.loop-byte in
    let n = part_length a.rec.now a.place p.0 a.from a.to p.1 p.2 c.sent.result.now c.sent.ensures.0 in
    let d = digit_told a.rec.now a.place p.0 a.from a.to p.1 p.2 c.sent.result.now c.sent.ensures.0 l.byte-index c.loop-byte-test.true p.4 c.from.result c.from.ensures in
    let e : a.from + (l.byte-index + 1) ≡ a.from + l.byte-index + 1 = omega arith in
    (grow l.sum l.byte-index c.from.result l.invariant.0 d.1, rw e (read_next a.rec.now a.place a.from a.to (a.from + l.byte-index) l.sum c.from.result p.0 p.2 (omega arith) d.0 l.invariant.1))

pub returns : goal.returns
returns c =
    let a = c.args in
    let p = c.requires in
    let n = part_length a.rec.now a.place p.0 a.from a.to p.1 p.2 c.sent.result.now c.sent.ensures.0 in
    read_end _ _ _ (a.from + c.loop-byte.byte-index) _ (omega arith) (omega arith) c.loop-byte.invariant.1
