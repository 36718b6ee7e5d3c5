-- Payment IDs that climb.
use Rattle.std.specs.Prelude.{true, false, List, [], ◌∷◌}
use Rattle.record.specs.Choice.{choose}
use Rattle.record.specs.Value.{held}
use Rattle.record.specs.Ordering.{order, is_after}
use Rattle.nesting.specs.Division.{Record}
use Rattle.repeats.specs.declared.Sort.TheVariants.{Payments}
use Rattle.repeats.specs.declared.climb.Climbing.{Climbing}
use Rattle.repeats.specs.Repeats.{numbering, is_of}

-- what is known of a climb after one record more: nothing new where an ID fell or where it is no detail, else whether its ID stands after
-- the greatest, and which is the greatest now
unfoldable pub climbed : Record → Climbing → Climbing
climbed r known =
    choose known.falls known
    (choose (is_of Payments r)
    (choose (is_after (order (held r (numbering Payments)) known.greatest))
    (record { falls = false; greatest = held r (numbering Payments) })
    (record { falls = true; greatest = known.greatest }))
    known)

-- the same after records one after the other
unfoldable pub climbed_by : List Record → Climbing → Climbing
climbed_by [] known = known
climbed_by (r ∷ rs) known = climbed_by rs (climbed r known)
