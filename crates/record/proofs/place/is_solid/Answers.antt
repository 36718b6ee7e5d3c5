use mathlib.Core.Path.{ap, ◌∙◌}
use mathlib.Core.Bool.{not}
use lib.Dec.{eqb}
use Rattle.std.proofs.Common.{rules, tests}
use Rattle.std.proofs.lemmas.Iterator.{YieldsList-from_slice}
use Rattle.std.proofs.lemmas.Iterator.Search.{all_from_yields_List}
use Rattle.record.specs.Tests.{every}
use Rattle.record.proofs.Chains.{every_all}
use Rattle.record.proofs.Sent.{solid_sent}
use Rattle.record.proofs.place.is_solid.Goals as goal

pub returns : goal.returns
returns c =
    solid_sent _ _ c.sent_as-blank.result _ c.sent_as-blank.ensures
    (all_from_yields_List (λ x. not (eqb x c.sent_as-blank.result)) _ _ _ c.all.ensures.ran (YieldsList-from_slice c.sent.result.now (cc)) (λ x b q k. search (rules, tests))
    ∙ every_all _ _ ∙ ap (every (λ x. not (eqb x c.sent_as-blank.result))) c.sent.ensures.0)
