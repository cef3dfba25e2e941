use Rattle.std.proofs.Common.{◌≡◌}
use Rattle.canvas_model.specs.Position.{num}
use Rattle.canvas_pos.proofs.digits_number.Given as goal

-- the digits before this one are in the number
abbrev pub invariant-loop-i : goal.invariant-loop-i
invariant-loop-i l = l.number ≡ num l.bytes l.i
