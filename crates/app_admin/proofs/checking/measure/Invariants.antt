use Rattle.std.proofs.Common.{◌≡◌, ◌≤◌, ◌+◌, length}
use Rattle.canvas_shelf.specs.Records.{texts}
use Rattle.app_admin.specs.Checks.{torn_size}
use Rattle.app_admin.proofs.checking.measure.Given as goal

-- the records so far and those that are left are all, and what stands behind them is the same
abbrev pub invariant-loop-text : goal.invariant-loop-text
invariant-loop-text l = record {
  whole : l.whole + length (texts l.rest) ≡ length (texts l.bytes);
  torn : torn_size l.rest ≡ torn_size l.bytes;
  fits : l.whole + length l.rest ≤ length l.bytes;
}

abbrev pub decreases-loop-text : goal.decreases-loop-text
decreases-loop-text l = length l.rest
