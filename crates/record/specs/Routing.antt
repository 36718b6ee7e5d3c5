-- Routing numbers (01 Routing number).
use Rattle.std.specs.Prelude.{ℕ, Bool, List, leb, eqb, take}
use Rattle.record.specs.Choice.{◌and◌, ◌or◌}
use Rattle.record.specs.Tests.{digits}
use Rattle.record.specs.Numeral.{numeral}

-- the first two digits lie in 00-12, 21-32, 61-72 or are 80
unfoldable pub prefix_listed : ℕ → Bool
prefix_listed n = leb n 12 or (leb 21 n and leb n 32) or (leb 61 n and leb n 72) or eqb n 80

-- digits that begin with a listed prefix
unfoldable pub routing : List ℕ → Bool
routing xs = digits xs and prefix_listed (numeral (take 2 xs))
