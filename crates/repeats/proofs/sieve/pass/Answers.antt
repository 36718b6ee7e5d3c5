use Rattle.repeats.proofs.Classes.{marked_none}
use Rattle.repeats.proofs.Passes.{clean_none, clean_next, passed_hit, passed_all}
use borrow.Author.Rules.{rules}
use Rattle.repeats.proofs.sieve.pass.Goals as goal

pub loop-place-init : goal.loop-place-init
loop-place-init c = search (rules, marked_none, clean_none)

pub returns-then-trial : goal.returns-then-trial
returns-then-trial c =
    let t = c.in_ok-trial.ensures.answer in
    (t.budget, passed_hit _ _ _ _ _ _ _ t c.loop-place.invariant.4 _ (search rules) c.if-trial.true)

pub loop-place-preserved : goal.loop-place-preserved
loop-place-preserved c =
    let t = c.in_ok-trial.ensures.answer in
    let q = clean_next _ _ _ _ _ _ _ t c.loop-place.invariant.4 c.if-trial.false in
    let b = t.budget in
    search rules

pub returns : goal.returns
returns c = search (rules, passed_all)
