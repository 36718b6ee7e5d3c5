use mathlib.Core.Path.{sym, ◌∙◌}
use native.Mathlib.Omega.{arith}
use Rattle.numbers.proofs.Laws.{bytes_all}
use Rattle.book.proofs.Chains.{too_long, lost_next, systems_stand, locations_stand, betcs_stand, types_stand, states_stand, countries_stand, currencies_stand, book_found, book_unended}
use borrow.Author.Rules.{rules}
use Rattle.book.proofs.reading.read_book.Goals as goal

pub returns-then-book-gt16777216 : goal.returns-then-book-gt16777216
returns-then-book-gt16777216 c = too_long _ (search rules)

pub returns-in_err-systems : goal.returns-in_err-systems
returns-in_err-systems c =
    rw c.from_residual.ensures (lost_next _ _ _ _ (systems_stand _) c.in_err-systems.ensures.0)

pub returns-in_err-locations : goal.returns-in_err-locations
returns-in_err-locations c =
    let f1 = c.in_ok-systems.ensures.0 in
    rw c.from_residual-in_err-locations.ensures (lost_next _ _ _ _ (locations_stand _ _ f1) (rw c.end_of.ensures at c.in_err-locations.ensures.0))

pub returns-in_err-betcs : goal.returns-in_err-betcs
returns-in_err-betcs c =
    let f1 = c.in_ok-systems.ensures.0 in
    let f2 = rw c.end_of.ensures at c.in_ok-locations.ensures.0 in
    rw c.from_residual-in_err-betcs.ensures (lost_next _ _ _ _ (betcs_stand _ _ f1 _ f2) (rw c.end_of-2.ensures at c.in_err-betcs.ensures.0))

pub returns-in_err-types : goal.returns-in_err-types
returns-in_err-types c =
    let f1 = c.in_ok-systems.ensures.0 in
    let f2 = rw c.end_of.ensures at c.in_ok-locations.ensures.0 in
    let f3 = rw c.end_of-2.ensures at c.in_ok-betcs.ensures.0 in
    rw c.from_residual-in_err-types.ensures (lost_next _ _ _ _ (types_stand _ _ f1 _ f2 _ f3) (rw c.end_of-3.ensures at c.in_err-types.ensures.0))

pub returns-in_err-states : goal.returns-in_err-states
returns-in_err-states c =
    let f1 = c.in_ok-systems.ensures.0 in
    let f2 = rw c.end_of.ensures at c.in_ok-locations.ensures.0 in
    let f3 = rw c.end_of-2.ensures at c.in_ok-betcs.ensures.0 in
    let f4 = rw c.end_of-3.ensures at c.in_ok-types.ensures.0 in
    rw c.from_residual-in_err-states.ensures (lost_next _ _ _ _ (states_stand _ _ f1 _ f2 _ f3 _ f4) (rw c.end_of-4.ensures at c.in_err-states.ensures.0))

pub returns-in_err-countries : goal.returns-in_err-countries
returns-in_err-countries c =
    let f1 = c.in_ok-systems.ensures.0 in
    let f2 = rw c.end_of.ensures at c.in_ok-locations.ensures.0 in
    let f3 = rw c.end_of-2.ensures at c.in_ok-betcs.ensures.0 in
    let f4 = rw c.end_of-3.ensures at c.in_ok-types.ensures.0 in
    let f5 = rw c.end_of-4.ensures at c.in_ok-states.ensures.0 in
    rw c.from_residual-in_err-countries.ensures (lost_next _ _ _ _ (countries_stand _ _ f1 _ f2 _ f3 _ f4 _ f5) (rw c.end_of-5.ensures at c.in_err-countries.ensures.0))

pub returns-in_err-currencies : goal.returns-in_err-currencies
returns-in_err-currencies c =
    let f1 = c.in_ok-systems.ensures.0 in
    let f2 = rw c.end_of.ensures at c.in_ok-locations.ensures.0 in
    let f3 = rw c.end_of-2.ensures at c.in_ok-betcs.ensures.0 in
    let f4 = rw c.end_of-3.ensures at c.in_ok-types.ensures.0 in
    let f5 = rw c.end_of-4.ensures at c.in_ok-states.ensures.0 in
    let f6 = rw c.end_of-5.ensures at c.in_ok-countries.ensures.0 in
    rw c.from_residual-in_err-currencies.ensures (lost_next _ _ _ _ (currencies_stand _ _ f1 _ f2 _ f3 _ f4 _ f5 _ f6) (rw c.end_of-6.ensures at c.in_err-currencies.ensures.0))

pub returns-then-end_of-book : goal.returns-then-end_of-book
returns-then-end_of-book c =
    let f1 = c.in_ok-systems.ensures.0 in
    let f2 = rw c.end_of.ensures at c.in_ok-locations.ensures.0 in
    let f3 = rw c.end_of-2.ensures at c.in_ok-betcs.ensures.0 in
    let f4 = rw c.end_of-3.ensures at c.in_ok-types.ensures.0 in
    let f5 = rw c.end_of-4.ensures at c.in_ok-states.ensures.0 in
    let f6 = rw c.end_of-5.ensures at c.in_ok-countries.ensures.0 in
    let f7 = rw c.end_of-6.ensures at c.in_ok-currencies.ensures.0 in
    book_unended _ _ f1 _ f2 _ f3 _ f4 _ f5 _ f6 _ f7 (λ e. c.if-end_of-book.true (c.end_of-7.ensures ∙ e))

pub returns : goal.returns
returns c =
    let f1 = c.in_ok-systems.ensures.0 in
    let f2 = rw c.end_of.ensures at c.in_ok-locations.ensures.0 in
    let f3 = rw c.end_of-2.ensures at c.in_ok-betcs.ensures.0 in
    let f4 = rw c.end_of-3.ensures at c.in_ok-types.ensures.0 in
    let f5 = rw c.end_of-4.ensures at c.in_ok-states.ensures.0 in
    let f6 = rw c.end_of-5.ensures at c.in_ok-countries.ensures.0 in
    let f7 = rw c.end_of-6.ensures at c.in_ok-currencies.ensures.0 in
    book_found _ _ f1 _ f2 _ f3 _ f4 _ f5 _ f6 _ f7 (bytes_all _ (λ i. omega (arith, c.type_inv.book i))) (search rules) (sym c.end_of-7.ensures ∙ c.if-end_of-book.false)
