use Rattle.std.proofs.Common.{◌≡◌, All, vec_len}
use Rattle.std.specs.Option.{option_copied}
use Rattle.canvas_model.specs.Position.{num, IsDigitByte}
use Rattle.canvas_pos.specs.Ends.{greatest_before}
use Rattle.canvas_pos.proofs.half_way.Given as goal

-- the lower end's first digits stand there
abbrev pub invariant-loop-i : goal.invariant-loop-i
invariant-loop-i g l = record {
  len : vec_len l.bytes ≡ l.i;
  digits : All IsDigitByte l.bytes.items;
  value : num l.bytes.items l.i ≡ greatest_before (option_copied l.lo) l.i;
}
