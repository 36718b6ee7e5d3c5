use native.Mathlib.Omega.{arith}
use mathlib.Core.Path.{◌≡◌, ◌∙◌}
use Prim.Native.Nat.{◌+◌, ◌*◌, ◌/◌, ◌<◌, ◌≤◌}
use lib.ListN.{length}
use Rattle.page.specs.CodePage.{shown}
use Rattle.page.proofs.Shown.{shown_length}
use Rattle.record.proofs.CodeList.{code_read}
use Rattle.batch.proofs.Laws.{at_is}
use Rattle.batch.proofs.Turns.{first_sent, begun, room_here, number_few, here_length, turned, took, ended, finished}
use borrow.Author.Rules.{rules}
use Rattle.batch.proofs.pass.walk_batch.Goals as goal

pub slice_bounds-open_batch-end : goal.slice_bounds-open_batch-end
slice_bounds-open_batch-end c = let k = first_sent _ _ _ c.requires.1 in search rules

pub loop-index-init : goal.loop-index-init
loop-index-init c = begun c.requires.1 c.open_batch-state.ensures

pub step-state-requires : goal.step-state-requires
step-state-requires c =
    let h : c.loop-index.index * 850 < length c.args.rest.now = omega arith in
    let l = c.loop-index.invariant in
    (search rules, here_length l h, code_read _ _ _ c.code_bytes.ensures c.code_of-code.ensures, room_here l, number_few l h)

pub climb-climbing-requires : goal.climb-climbing-requires
climb-climbing-requires c =
    let h : c.loop-index.index * 850 < length c.args.rest.now = omega arith in
    (here_length c.loop-index.invariant h, code_read _ _ _ c.code_bytes.ensures c.code_of-code.ensures)

pub returns-then-is_trailer : goal.returns-then-is_trailer
returns-then-is_trailer c =
    let h : c.loop-index.index * 850 < length c.args.rest.now = omega arith in
    let g = c.eq-repeated.ensures ∙ at_is _ _ in
    let o = code_read _ _ _ c.code_bytes.ensures c.code_of-code.ensures in
    ended c.loop-index.invariant h g (took _ _ _ _ _ _ _ c.step-state.ensures c.climb-climbing.ensures) o c.is_trailer.ensures c.if-is_trailer.true

pub loop-index-preserved : goal.loop-index-preserved
loop-index-preserved c =
    let h : c.loop-index.index * 850 < length c.args.rest.now = omega arith in
    let e : (c.loop-index.index + 1) * 850 ≡ c.loop-index.index * 850 + 850 = omega arith in
    let g = c.eq-repeated.ensures ∙ at_is _ _ in
    let o = code_read _ _ _ c.code_bytes.ensures c.code_of-code.ensures in
    rw e (turned c.loop-index.invariant h g (took _ _ _ _ _ _ _ c.step-state.ensures c.climb-climbing.ensures) o c.is_trailer.ensures c.if-is_trailer.false)

pub returns : goal.returns
returns c =
    let l = c.loop-index.invariant in
    let n = shown_length c.args.first.ascii c.args.rest.now in
    let e : length c.args.rest.now / 850 ≡ c.loop-index.index = omega (arith, n, l.within) in
    let h : length (shown c.args.first.ascii c.args.rest.now) ≤ c.loop-index.index * 850 = omega (arith, n, l.judgeable.whole, e) in
    rw e (finished l h)
