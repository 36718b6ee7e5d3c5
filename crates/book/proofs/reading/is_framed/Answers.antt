use Rattle.book.proofs.Frames.{framed_short, framed_other, framed_small, framed_long, framed_is}
use borrow.Author.Rules.{rules}
use Rattle.book.proofs.reading.is_framed.Goals as goal

pub returns-then-book-at : goal.returns-then-book-at
returns-then-book-at c = search (rules, framed_short)

pub returns-then-kind_at-kind : goal.returns-then-kind_at-kind
returns-then-kind_at-kind c = search (rules, framed_other)

pub returns-then-size-lt2 : goal.returns-then-size-lt2
returns-then-size-lt2 c = search (rules, framed_small)

pub returns-then-book-at-2 : goal.returns-then-book-at-2
returns-then-book-at-2 c = search (rules, framed_long)

pub returns : goal.returns
returns c = search (rules, framed_is)
