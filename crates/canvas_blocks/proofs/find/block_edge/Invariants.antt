use Rattle.std.proofs.Common.{◌≤◌, ◌<◌, ◌-◌, length, get_or, true, false}
use Rattle.std.specs.Fn.{FnReturnsAt}
use Rattle.canvas_blocks.proofs.find.block_edge.Given as goal

abbrev pub invariant-loop-low : goal.invariant-loop-low
invariant-loop-low g l =
    (l.low ≤ l.high) × (l.high ≤ length l.blocks)
    × ((b : _) (d : _) → 0 < l.low → FnReturnsAt g.P.Fn l.before (get_or (get_or l.blocks (l.low - 1) b).items 0 d) true)
    × ((b : _) (d : _) → l.high < length l.blocks → FnReturnsAt g.P.Fn l.before (get_or (get_or l.blocks l.high b).items 0 d) false)

abbrev pub decreases-loop-low : goal.decreases-loop-low
decreases-loop-low g l = l.high - l.low
