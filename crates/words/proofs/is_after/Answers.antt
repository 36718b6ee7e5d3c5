use Prim.Native.Nat.{◌+◌, ◌*◌, ◌/◌}
use mathlib.Core.Path.{◌≡◌}
use native.Mathlib.Omega.{arith}
use lib.ListN.{length}
use Rattle.words.proofs.Weights.{left_none, words_apart, words_next, words_rest}
use Rattle.words.proofs.is_after.Goals as goal

pub loop-i-init : goal.loop-i-init
loop-i-init c = left_none _ _

pub returns-then-own-other : goal.returns-then-own-other
returns-then-own-other c =
    words_apart _ _ (λ k. omega (arith, c.type_inv.bytes k)) (λ k. omega (arith, c.type_inv.others k)) c.requires (c.loop-i.i * 8) (omega arith) _ _ c.word-own.ensures c.word-other.ensures c.loop-i.invariant c.if-own-other.true

pub loop-i-preserved : goal.loop-i-preserved
loop-i-preserved c =
    let n : (c.loop-i.i + 1) * 8 ≡ c.loop-i.i * 8 + 8 = omega arith in
    rw n (words_next _ _ (λ k. omega (arith, c.type_inv.bytes k)) (λ k. omega (arith, c.type_inv.others k)) c.requires (c.loop-i.i * 8) (omega arith) _ _ c.word-own.ensures c.word-other.ensures c.loop-i.invariant c.if-own-other.false)

pub returns : goal.returns
returns c =
    let e : c.loop-i.i * 8 ≡ length c.args.bytes.now / 8 * 8 = omega arith in
    words_rest c.args.bytes.now c.args.others.now (length c.args.bytes.now / 8 * 8) _ (rw e at c.loop-i.invariant) c.rest_after.ensures
