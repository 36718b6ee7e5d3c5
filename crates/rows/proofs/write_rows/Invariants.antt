use Rattle.page.specs.CodePage.{shown}
use Rattle.book.specs.Book.{listed_at}
use Rattle.rows.proofs.Turns.{Going}
use Rattle.rows.proofs.write_rows.Given as goal

abbrev pub invariant-loop-written : goal.invariant-loop-written
invariant-loop-written l =
    Going (listed_at l.book l.shelves) l.today (shown l.ascii l.file) l.payments l.batches l.initial.report l.report l.greatest l.marked l.place l.written
