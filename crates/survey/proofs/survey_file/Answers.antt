use Prim.Native.Nat.{◌+◌, ◌*◌, ◌/◌, ◌<◌, ◌≤◌}
use mathlib.Core.Path.{◌≡◌}
use native.Mathlib.Omega.{arith}
use lib.ListN.{length}
use Rattle.record.proofs.Chain.{told}
use Rattle.record.proofs.CodeList.{code_read}
use Rattle.survey.proofs.Highs.{high_none, high_next, high_record}
use Rattle.survey.proofs.Turns.{surveying, number_few, turned, stopped, closed, unclosed}
use borrow.Author.Tests.{leb-true}
use borrow.Author.Rules.{rules}
use Rattle.survey.proofs.survey_file.Goals as goal

pub loop-index-init : goal.loop-index-init
loop-index-init c = (surveying _ _ c.start-going.ensures, high_none _ _)

pub returns-then-not-fits : goal.returns-then-not-fits
returns-then-not-fits c =
    let h : c.loop-index.index * 850 < length c.args.file.now = omega (arith, c.requires.whole) in
    stopped _ _ _ _ _ c.requires c.loop-index.invariant.0 _ h (code_read _ _ _ c.code_bytes.ensures c.code_of-code.ensures) _ c.fits.ensures
    (λ i. (c.type_inv.file i).fits) c.if-not-fits.true

pub step-going-requires : goal.step-going-requires
step-going-requires c =
    let h : c.loop-index.index * 850 < length c.args.file.now = omega (arith, c.requires.whole) in
    let l = c.loop-index.invariant.0 in
    let u = c.reach-reached.ensures in
    (search rules, number_few _ _ _ _ _ c.requires l h, (code_read _ _ _ c.code_bytes.ensures c.code_of-code.ensures), told _ _ _ c.fits.ensures c.if-not-fits.false, (λ t. high_record _ _ _ _ u (leb-true _ _ t)), l.room)

pub loop-index-preserved : goal.loop-index-preserved
loop-index-preserved c =
    let h : c.loop-index.index * 850 < length c.args.file.now = omega (arith, c.requires.whole) in
    let e : (c.loop-index.index + 1) * 850 ≡ c.loop-index.index * 850 + 850 = omega arith in
    let k = code_read _ _ _ c.code_bytes.ensures c.code_of-code.ensures in
    rw e
    (turned _ _ _ _ _ c.requires c.loop-index.invariant.0 _ h k _ c.fits.ensures c.if-not-fits.false _ c.step-going.ensures, high_next _ _ _ c.reach-reached.ensures)

pub returns-then-not-is_at : goal.returns-then-not-is_at
returns-then-not-is_at c =
    let e : length c.args.file.now / 850 ≡ c.loop-index.index = omega arith in
    let h : length c.args.file.now ≤ c.loop-index.index * 850 = omega (arith, c.requires.whole) in
    rw e
    (unclosed _ _ _ _ _ c.requires c.loop-index.invariant.0 (λ i. (c.type_inv.file i).fits) h (told _ _ _ c.is_at.ensures c.if-not-is_at.true))

pub returns : goal.returns
returns c =
    let h : length c.args.file.now ≤ c.loop-index.index * 850 = omega (arith, c.requires.whole) in
    closed _ _ _ _ _ c.requires c.loop-index.invariant.0 (λ i. (c.type_inv.file i).fits) h (told _ _ _ c.is_at.ensures c.if-not-is_at.false)
