use Rattle.std.proofs.Common.{◌≡◌, length}
use Rattle.canvas_lines.specs.Lines.{lines_of, meaningful}
use Rattle.canvas_script.proofs.script.is_world.Given as goal

abbrev pub invariant-loop-line : goal.invariant-loop-line
invariant-loop-line l = meaningful (lines_of l.rest) ≡ meaningful (lines_of l.input)

abbrev pub decreases-loop-line : goal.decreases-loop-line
decreases-loop-line l = length l.rest
