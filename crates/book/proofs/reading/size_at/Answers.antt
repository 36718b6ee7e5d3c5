use Rattle.book.proofs.Bytes.{size_read, size_small}
use borrow.Author.Rules.{rules}
use Rattle.book.proofs.reading.size_at.Goals as goal

pub returns : goal.returns
returns c = search (rules, size_read, size_small)
