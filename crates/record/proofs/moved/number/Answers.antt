use Rattle.record.proofs.Moving.{number_asked, number_read}
use borrow.Author.Rules.{rules}
use Rattle.record.proofs.moved.number.Goals as goal

pub number-requires : goal.number-requires
number-requires c =
    let o = c.args in
    number_asked _ o.place o.justification c.find-moved.result (search rules) (search rules) o.from o.to _ _
    (search rules) (search rules) (search rules) (search rules) (search rules)

pub returns : goal.returns
returns c = search (rules, number_read)
