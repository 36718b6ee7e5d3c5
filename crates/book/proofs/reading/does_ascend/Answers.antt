use Rattle.book.proofs.Walks.{codes_start, codes_next, codes_stop, codes_end}
use borrow.Author.Rules.{rules}
use Rattle.book.proofs.reading.does_ascend.Goals as goal

pub loop-i-init : goal.loop-i-init
loop-i-init c = codes_start _ _

pub returns-then-not-is_pair : goal.returns-then-not-is_pair
returns-then-not-is_pair c =
    let l = c.loop-i in
    codes_stop _ _ l.i _ (search rules) (search rules) l.invariant c.is_pair.ensures c.if-not-is_pair.true

pub loop-i-preserved : goal.loop-i-preserved
loop-i-preserved c =
    let l = c.loop-i in
    codes_next _ _ l.i _ (search rules) (search rules) l.invariant c.is_pair.ensures c.if-not-is_pair.false

pub returns : goal.returns
returns c = codes_end _ _ c.loop-i.i (search rules) (search rules) c.loop-i.invariant
