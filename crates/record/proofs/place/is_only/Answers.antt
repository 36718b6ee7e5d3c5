use mathlib.Core.Path.{ap, ◌∙◌}
use lib.Dec.{eqb}
use Rattle.std.proofs.Common.{rules, tests}
use Rattle.std.proofs.lemmas.Iterator.{YieldsList-from_slice}
use Rattle.std.proofs.lemmas.Iterator.Search.{all_from_yields_List}
use Rattle.record.specs.Tests.{only}
use Rattle.record.proofs.Chains.{every_all}
use Rattle.record.proofs.Sent.{only_sent}
use Rattle.record.proofs.place.is_only.Goals as goal

pub returns : goal.returns
unfolding only
returns c =
    only_sent _ _ _ _ c.sent_as-wanted.result _ c.requires.1 c.sent_as-wanted.ensures
    (all_from_yields_List (λ x. eqb x c.sent_as-wanted.result) _ _ _ c.all.ensures.ran (YieldsList-from_slice c.sent.result.now (cc)) (λ x b q k. search (rules, tests))
    ∙ every_all _ _ ∙ ap (only c.sent_as-wanted.result) c.sent.ensures.0)
