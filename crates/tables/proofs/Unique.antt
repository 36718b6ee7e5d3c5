-- The public functions' contracts allow one result, and one table, for the same arguments: stated over the contracts themselves.
-- Assumes nothing.
use mathlib.Core.Path.{◌≡◌, sym, ◌∙◌}
use lib.ListN.{length}
use Rattle.record.proofs.Unique.{OneResult}
use Rattle.tables.proofs.enter.Reads as enter
use Rattle.tables.proofs.Table.enter.Reads as table-enter
use Rattle.tables.proofs.Table.count.Reads as count
use Rattle.tables.proofs.Table.new.Reads as new

-- behind the table that is lent is one argument, before it four
pub enter_unique : (κs : _) (a : _) (r s : _) (x y : _) → enter.Post κs a r x → enter.Post κs a s y
    → (r.entry ≡ s.entry) × (r.count ≡ s.count) × (x.1.1.1.1.0.now ≡ y.1.1.1.1.0.now)
enter_unique κs a r s x y p q = (p.0.0 ∙ sym q.0.0, p.0.1 ∙ sym q.0.1, p.1 ∙ sym q.1)

-- a table with its count, which stands first
pub table_enter_unique : (width : _) (fits : _) (κs : _) (a : _) (r s : _) (x y : _) → table-enter.Post width fits κs a r x → table-enter.Post width fits κs a s y
    → (r ≡ s) × (x.0.now.count ≡ y.0.now.count) × (x.0.now.places ≡ y.0.now.places)
table_enter_unique width fits κs a r s x y p q = (p.0 ∙ sym q.0, p.1.0 ∙ sym q.1.0, p.1.1 ∙ sym q.1.1)

pub count_unique : (width : _) (fits : _) → OneResult (count.Post width fits)
count_unique width fits κs a r s x y p q = p ∙ sym q

-- a new table holds none of its places
pub new_unique : (width : _) (fits : _) (κs : _) (a : _) (r s : _) (x y : _) → new.Post width fits κs a r x → new.Post width fits κs a s y
    → (r.count ≡ s.count) × (length r.places ≡ length s.places)
new_unique width fits κs a r s x y p q = (p.0 ∙ sym q.0, p.1 ∙ sym q.1)
