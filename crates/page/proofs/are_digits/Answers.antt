use mathlib.Core.Path.{◌∙◌}
use mathlib.Core.Bool.{◌&&◌}
use lib.Dec.{leb}
use Rattle.std.proofs.Common.{rules, tests}
use Rattle.std.proofs.lemmas.Iterator.{YieldsList-from_slice}
use Rattle.std.proofs.lemmas.Iterator.Search.{all_from_yields_List}
use Rattle.page.proofs.Figures.{digits_all}
use Rattle.page.proofs.are_digits.Goals as goal

pub returns : goal.returns
returns c =
    all_from_yields_List (λ x. leb 0x30 x && leb x 0x39) _ _ _ c.all.ensures.ran (YieldsList-from_slice c.args.bytes.now (cc)) (λ x b q k. search (rules, tests))
    ∙ digits_all c.args.bytes.now
