use Rattle.std.specs.Prelude.{ℕ, List}
use mathlib.Core.Path.{◌≡◌, ap, ◌∙◌}
use lib.ListN.{length, take}
use Rattle.record.specs.Tests.{alike}
use Rattle.record.proofs.Held.{held_length}
use Rattle.reasons.specs.Reasons.{symbol_and_serial}
use Rattle.reasons.proofs.Laws.{same_bytes, fewer_blanks, composed_held}
use borrow.Author.Rules.{rules}
use Rattle.reasons.proofs.checks.holds_composed.Goals as goal

pub returns : goal.returns
returns c =
    let p = c.requires in
    let own = c.copy_field.new.to in
    let serial = c.field_array.result in
    let n : length own ≡ c.args.field.width = ap length c.copy_field.ensures ∙ held_length _ _ _ p.0 in
    composed_held _ _ _ _ _ _ _ c.copy_field.ensures (held_length _ _ _ p.0) c.field_array.ensures
    (c.eq.ensures ∙ same_bytes own (take c.args.field.width c.symbol_and_serial-wanted.result)
    ∙ rw (c.symbol_and_serial-wanted.ensures, n)
    (ap (λ (u : List ℕ). alike own u) (fewer_blanks _ _ (search rules) (search rules) _ p.3 p.4)))
