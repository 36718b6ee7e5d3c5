use Prim.Native.Nat.{◌<◌}
use Rattle.numbers.proofs.Writing.{written_none}
use Rattle.report.proofs.Writing.{number_next, numbers_all}
use borrow.Author.Rules.{rules}
use Rattle.report.proofs.write_numbers.Goals as goal

pub loop-k-init : goal.loop-k-init
loop-k-init c = search (rules, written_none)

pub loop-k-preserved : goal.loop-k-preserved
loop-k-preserved c =
    let l : c.loop-k.k < 8 = search rules in
    search (rules, number_next)

pub returns : goal.returns
returns c = search (rules, numbers_all)
