use Rattle.std.specs.Option.{option_copied}
use Rattle.canvas_pos.specs.Ends.{IsNarrow}
use Rattle.canvas_pos.proofs.first_gap.Given as goal

-- the ends are next to each other so far
abbrev pub invariant-loop-i : goal.invariant-loop-i
invariant-loop-i l = IsNarrow (option_copied l.lo) (option_copied l.hi) l.i
