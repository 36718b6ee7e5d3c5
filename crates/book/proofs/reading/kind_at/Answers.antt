use Rattle.book.proofs.Bytes.{kind_read}
use borrow.Author.Rules.{rules}
use Rattle.book.proofs.reading.kind_at.Goals as goal

pub returns : goal.returns
returns c = search (rules, kind_read)
