use native.Mathlib.Omega.{arith}
use Rattle.batch.proofs.Rooms.{kept_header}
use Rattle.batch.proofs.Laws.{batch_opened}
use borrow.Author.Rules.{rules}
use Rattle.batch.proofs.walk.open_batch.Goals as goal

pub header_rules-finding-requires : goal.header_rules-finding-requires
header_rules-finding-requires c =
    let p = c.requires in
    (p.1, kept_header _ _ _ _ _ _ _ _ _ _ (omega arith) p.1 c.read_header-header.ensures)

pub returns : goal.returns
returns c = search (rules, batch_opened)
