use Rattle.verdict.proofs.Divided.{some_sent, number_small, book_usable, total_whole, header_refused, trailer_refused, all_passed}
use borrow.Author.Rules.{rules}
use Rattle.verdict.proofs.judge_frame.Goals as goal

pub slice_bounds-header_reason-end : goal.slice_bounds-header_reason-end
slice_bounds-header_reason-end c = search (rules, some_sent)

pub header_reason-requires : goal.header_reason-requires
header_reason-requires c = search (rules, some_sent, book_usable)

pub returns-in-Some : goal.returns-in-Some
returns-in-Some c = header_refused _ _ _ _ c.requires _ c.header_reason.ensures _ c.in-Some.is _ c.refuse.ensures

pub overflow_sub-start : goal.overflow_sub-start
overflow_sub-start c = search (rules, some_sent)

pub trailer_reason-requires : goal.trailer_reason-requires
trailer_reason-requires c = let k = some_sent _ _ _ _ c.requires in search (rules, total_whole)

pub refuse-requires-in-Some-trailer_reason : goal.refuse-requires-in-Some-trailer_reason
refuse-requires-in-Some-trailer_reason c = number_small _ _ _ _ c.requires

pub returns-in-Some-trailer_reason : goal.returns-in-Some-trailer_reason
returns-in-Some-trailer_reason c =
    trailer_refused _ _ _ _ c.requires _ c.header_reason.ensures c.in_default.is _ c.trailer_reason.ensures _ c.in-Some-trailer_reason.is _
    c.refuse-in-Some-trailer_reason.ensures

pub returns : goal.returns
returns c =
    all_passed _ _ _ _ c.requires _ c.header_reason.ensures c.in_default.is _ c.trailer_reason.ensures c.in_default-trailer_reason.is
