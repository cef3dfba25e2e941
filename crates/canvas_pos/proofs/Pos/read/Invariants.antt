use Rattle.std.proofs.Common.{ℕ, ◌<◌, get_or}
use Rattle.canvas_model.specs.Position.{IsDigitByte}
use Rattle.canvas_pos.proofs.Pos.read.Given as goal

-- each byte that was passed is a digit
abbrev pub invariant-loop-i : goal.invariant-loop-i
invariant-loop-i g l = (k : ℕ) → k < l.i → IsDigitByte (get_or l.bytes k 32)
