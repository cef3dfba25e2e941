use Rattle.std.proofs.Common.{◌≡◌, ◌≢◌, ◌+◌, ◌-◌, ◌*◌, ◌^◌, ◌<◌, All, get_or, vec_len}
use Rattle.canvas_model.specs.Position.{IsDigitByte, num}
use Rattle.canvas_pos.proofs.step.short_position.Given as goal

-- so many digits stand there, and the rest is what they lack of the fraction; where that is nothing, they don't end in 0
abbrev pub invariant-loop : goal.invariant-loop
invariant-loop g l = record {
  len : vec_len l.bytes ≡ l.counter;
  digits : All IsDigitByte l.bytes.items;
  part : l.rest < 81450625;
  value : num l.bytes.items l.counter * 81450625 + l.rest ≡ l.steps * 95 ^ l.counter;
  some : l.rest ≡ 0 → 0 < l.counter;
  last : l.rest ≡ 0 → get_or l.bytes.items (l.counter - 1) 32 ≢ 32;
}
