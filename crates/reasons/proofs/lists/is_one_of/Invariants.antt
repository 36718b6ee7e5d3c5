use Rattle.std.specs.Prelude.{◌≡◌, true, drop}
use Rattle.record.specs.Value.{seen, held}
use Rattle.reasons.specs.Lists.{values, are_twins, one_of}
use Rattle.reasons.proofs.lists.is_one_of.Given as goal

-- the values passed over are not the field's, and what is left is twins
abbrev pub invariant-loop-text : goal.invariant-loop-text
invariant-loop-text g l =
    let v = held (seen l.line l.rec) l.field in
    (one_of (values l.fn.texts) v ≡ one_of (values (drop l.text-index l.texts)) v) × (are_twins (drop l.text-index l.texts) ≡ true)
