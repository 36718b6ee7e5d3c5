use mathlib.Core.Path.{sym, ◌∙◌}
use Rattle.record.proofs.Chain.{reads}
use Rattle.kinds.proofs.Counts.{count_other, table_other, count_own, table_own}
use borrow.Author.Rules.{rules}
use Rattle.kinds.proofs.count.Goals as goal

pub returns-then-has_kind : goal.returns-then-has_kind
returns-then-has_kind c =
    let o = sym c.has_kind.ensures ∙ c.if-has_kind.true in
    record { more = count_own _ _ _ _ _ o _ c.enter.ensures.more; after = table_own _ _ _ _ _ o _ c.enter.ensures.after }

pub returns-else-has_kind : goal.returns-else-has_kind
returns-else-has_kind c = search (rules, count_other, table_other, reads)
