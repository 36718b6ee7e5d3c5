use mathlib.Core.Path.{ap}
use Rattle.std.specs.Prelude.{is_ok}
use Rattle.tables.proofs.Enters.{seat_told, seat_in, known_entry, known_count, known_table, new_entry, new_count, new_table, full_entry, full_count, full_table}
use borrow.Author.Rules.{rules}
use Rattle.tables.proofs.enter.Goals as goal

pub insert-requires : goal.insert-requires
insert-requires c =
    let s = seat_told _ _ _ c.seek.ensures.at c.in-Err.is in
    let h = seat_in _ _ _ _ _ _ _ c.requires.0 s in
    (search rules, search rules, h, search rules)

pub returns-in_default : goal.returns-in_default
returns-in_default c =
    let k = c.seek.ensures.taken in
    let f = ap is_ok c.in_default.is in
    record {
      answer = (known_entry _ _ _ _ _ _ _ k f, known_count _ _ _ _ _ _ _ k f);
      after = known_table _ _ _ _ _ _ _ k f;
    }

pub returns-then-count-table : goal.returns-then-count-table
returns-then-count-table c =
    let k = c.seek.ensures.taken in
    let f = ap is_ok c.in-Err.is in
    let s = seat_told _ _ _ c.seek.ensures.at c.in-Err.is in
    record {
      answer = (new_entry _ _ _ _ _ _ _ k f (search rules), new_count _ _ _ _ _ _ _ k f (search rules));
      after = new_table _ _ _ _ _ _ _ k _ _ f (search rules) s (search rules);
    }

pub returns : goal.returns
returns c =
    let k = c.seek.ensures.taken in
    let f = ap is_ok c.in-Err.is in
    record {
      answer = (full_entry _ _ _ _ _ _ _ k f (search rules), full_count _ _ _ _ _ _ _ k f (search rules));
      after = full_table _ _ _ _ _ _ _ k f (search rules);
    }
