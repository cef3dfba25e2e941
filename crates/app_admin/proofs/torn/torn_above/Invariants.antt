use Rattle.std.proofs.Common.{◌≡◌, ◌++◌, drop}
use Rattle.app_admin.specs.Torn.{torn_above}
use Rattle.app_admin.proofs.torn.torn_above.Given as goal

abbrev pub invariant-loop-number : goal.invariant-loop-number
invariant-loop-number l = l.torn.items ++ torn_above l.taken (drop l.number-index l.listed) ≡ torn_above l.taken l.listed
