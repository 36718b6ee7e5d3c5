use mathlib.Core.Path.{◌∙◌}
use Rattle.page.proofs.Shown.{starts_tell}
use Rattle.page.proofs.is_ascii.Goals as goal

pub returns : goal.returns
returns c = c.starts_with.ensures.value ∙ starts_tell c.args.file.now
