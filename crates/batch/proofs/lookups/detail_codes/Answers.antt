use Rattle.book.specs.Book.{listed_at}
use Rattle.book.proofs.Lookup.{said_as}
use Rattle.batch.proofs.Laws.{codes_looked_up}
use Rattle.batch.proofs.lookups.detail_codes.Goals as goal

pub returns : goal.returns
unfolding listed_at
returns c =
    let u = c.requires.0 in
    rw (c.is_some.ensures, c.is_some-2.ensures, c.is_some-3.ensures, c.is_some-4.ensures)
    (codes_looked_up _ _ _ _ _ _ _ (said_as _ _ _ _ _ u.types c.look_up-payment_type.ensures)
    (said_as _ _ _ _ _ u.states c.look_up-state.ensures) (said_as _ _ _ _ _ u.countries c.look_up-country.ensures)
    (said_as _ _ _ _ _ u.currencies c.look_up-currency.ensures))
