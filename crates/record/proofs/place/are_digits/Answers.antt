use mathlib.Core.Path.{ap, ◌∙◌}
use Rattle.record.specs.Place.{near}
use Rattle.record.specs.Tests.{every}
use Rattle.record.proofs.Sent.{digits_sent, sent_slice}
use Rattle.record.proofs.place.are_digits.Goals as goal

pub returns : goal.returns
returns c =
    digits_sent _ _ _ _ c.sent_as-zero.result _ c.sent_as-zero.ensures
    (c.are_near.ensures ∙ ap (every (near c.sent_as-zero.result)) (sent_slice c.args.rec.now c.args.place _ _ _ c.sent.ensures.0))
