use mathlib.Core.Path.{sym, ap, ◌∙◌}
use lib.ListN.{length}
use Rattle.book.specs.Book.{entry_code}
use Rattle.book.proofs.Walks.{own_wide, other_wide, pair_told, parts_pair, less_before}
use Rattle.book.proofs.reading.is_pair.Goals as goal

pub is_after-requires : goal.is_after-requires
unfolding entry_code
is_after-requires c =
    let here = c.in-Some.ensures.1 in
    let there = c.in-Some-field_part.ensures.1 in
    ap length here ∙ own_wide c.args.book.now c.args.at c.args.entry c.args.code c.requires.0 c.requires.1
    ∙ sym (ap length there ∙ other_wide c.args.book.now c.args.at c.args.entry c.args.code c.requires.0 c.requires.1)

pub returns-in-Some-field_part : goal.returns-in-Some-field_part
unfolding entry_code
returns-in-Some-field_part c =
    parts_pair c.args.book.now c.args.at c.args.entry c.args.code _ _ _ c.in-Some.ensures.1 c.in-Some-field_part.ensures.1 c.is_after.ensures

pub returns : goal.returns
unfolding entry_code
returns c =
    pair_told c.args.book.now c.args.at c.args.entry c.args.code _ (c.eq.ensures ∙ rw c.fields_order.ensures (less_before _))
