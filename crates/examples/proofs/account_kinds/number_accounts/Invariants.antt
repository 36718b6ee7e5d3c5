use Rattle.std.proofs.Common.{◌≡◌, ◌<◌}
use Rattle.examples.proofs.account_kinds.number_accounts.Given as goal

abbrev pub invariant-loop-place : goal.invariant-loop-place
invariant-loop-place l = (l.file.count ≡ l.initial.file.count) × (l.number < l.kinds)
