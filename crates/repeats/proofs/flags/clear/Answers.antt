use mathlib.Core.Path.{◌∙◌}
use Rattle.repeats.proofs.Flagging.{zeros_replicate}
use Rattle.repeats.proofs.flags.clear.Goals as goal

pub returns : goal.returns
returns c = c.fill.ensures.after (λ y e. e) ∙ zeros_replicate _
