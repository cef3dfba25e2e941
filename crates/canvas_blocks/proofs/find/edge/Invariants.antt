use Rattle.std.proofs.Common.{◌≤◌, ◌<◌, ◌-◌, length, get_or, true, false}
use Rattle.std.specs.Fn.{FnReturnsAt}
use Rattle.canvas_blocks.proofs.find.edge.Given as goal

abbrev pub invariant-loop-low : goal.invariant-loop-low
invariant-loop-low g l =
    (l.low ≤ l.high) × (l.high ≤ length l.items)
    × ((d : _) → 0 < l.low → FnReturnsAt g.P.Fn l.before (get_or l.items (l.low - 1) d) true)
    × ((d : _) → l.high < length l.items → FnReturnsAt g.P.Fn l.before (get_or l.items l.high d) false)

abbrev pub decreases-loop-low : goal.decreases-loop-low
decreases-loop-low g l = l.high - l.low
