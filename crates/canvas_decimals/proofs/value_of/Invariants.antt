use Rattle.std.proofs.Common.{◌≡◌, ◌≤◌, drop}
use Rattle.canvas_decimals.specs.Decimals.{read_on}
use Rattle.canvas_decimals.proofs.value_of.Given as goal

abbrev pub invariant-loop-b : goal.invariant-loop-b
invariant-loop-b l = record {
  rest : read_on l.number (drop l.b-index l.text) ≡ read_on 0 l.text;
  small : l.number ≤ 9223372036854776007;
}
