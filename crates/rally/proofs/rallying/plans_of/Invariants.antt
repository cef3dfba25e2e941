use Rattle.std.proofs.Common.{◌≡◌, length}
use Rattle.std.specs.Prelude.{All}
use Rattle.rally.proofs.rallying.plans_of.Given as goal

abbrev pub invariant-loop : goal.invariant-loop
invariant-loop l = record {
  count : length l.plans.items ≡ l.counter;
  each : All (λ plan. plan ≡ l.page) l.plans.items;
}
