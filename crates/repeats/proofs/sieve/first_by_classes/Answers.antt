use Rattle.page.proofs.Shown.{shown_records}
use Rattle.repeats.proofs.Passes.{best_first, best_next, best_hit, best_miss}
use borrow.Author.Rules.{rules}
use Rattle.repeats.proofs.sieve.first_by_classes.Goals as goal

pub loop-class-init : goal.loop-class-init
loop-class-init c =
    let p = c.in-Some.ensures in
    search (rules, best_first, shown_records)

pub loop-class-preserved : goal.loop-class-preserved
loop-class-preserved c =
    let l = c.loop-class.invariant in
    let p = c.in-Some-pass.ensures in
    (search rules, l.1, p.0, l.3, best_next _ _ _ _ _ _ l.4 _ p.1)

pub returns-then-best-count : goal.returns-then-best-count
returns-then-best-count c = search (rules, best_hit)

pub returns : goal.returns
returns c = search (rules, best_miss)
