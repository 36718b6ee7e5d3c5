use Prim.Native.Nat.{◌≤◌}
use mathlib.Core.Path.{◌≡◌}
use Rattle.repeats.specs.Sieve.{hash_to}
use Rattle.repeats.proofs.sieve.hash_of.Given as goal

abbrev pub invariant-loop-k : goal.invariant-loop-k
invariant-loop-k l = (l.k ≤ 5) × (l.hash ≡ hash_to l.id l.k)
