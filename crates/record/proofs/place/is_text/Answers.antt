use mathlib.Core.Path.{refl}
use Rattle.record.proofs.Chains.{alike_of}
use Rattle.record.proofs.Sent.{text_sent}
use Rattle.record.proofs.place.is_text.Goals as goal

pub returns : goal.returns
returns c = text_sent _ _ _ _ c.sent_text.result.now _ c.requires.1 c.sent_text.ensures (alike_of _ _ _ _ c.sent.ensures.0 refl _ c.eq.ensures)
