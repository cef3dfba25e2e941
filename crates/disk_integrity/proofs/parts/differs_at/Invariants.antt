use Rattle.std.proofs.Common.{◌≡◌, ◌≤◌, length, take}
use Rattle.disk_integrity.proofs.parts.differs_at.Given as goal

abbrev pub invariant-loop-at : goal.invariant-loop-at
invariant-loop-at l = record {
  same : take l.at l.bytes ≡ take l.at l.whole;
  within : l.at ≤ length l.whole;
}
