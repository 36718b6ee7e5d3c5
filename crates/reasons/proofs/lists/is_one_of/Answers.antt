use mathlib.Core.Path.{sym, ◌∙◌}
use Rattle.reasons.proofs.Laws.{twins_here, twins_left, value_here, value_left, none_left}
use borrow.Author.Rules.{rules}
use Rattle.reasons.proofs.lists.is_one_of.Goals as goal

pub field_is-requires : goal.field_is-requires
field_is-requires g c = (search rules, twins_here c.args.texts.now c.loop-text.text-index _ c.loop-text-test.true c.loop-text-item.is c.loop-text.invariant.1)

pub returns-then-field_is : goal.returns-then-field_is
returns-then-field_is g c =
    sym (c.loop-text.invariant.0 ∙ value_here c.args.texts.now c.loop-text.text-index _ c.loop-text-test.true c.loop-text-item.is _ (sym c.field_is.ensures ∙ c.if-field_is.true))

pub loop-text-preserved : goal.loop-text-preserved
loop-text-preserved g c = (
  c.loop-text.invariant.0 ∙ value_left c.args.texts.now c.loop-text.text-index _ c.loop-text-test.true c.loop-text-item.is _ (sym c.field_is.ensures ∙ c.if-field_is.false),
  twins_left c.args.texts.now c.loop-text.text-index _ c.loop-text-test.true c.loop-text-item.is c.loop-text.invariant.1,
)

pub returns : goal.returns
returns g c = sym (c.loop-text.invariant.0 ∙ none_left _ _ _ c.loop-text-test.false)
