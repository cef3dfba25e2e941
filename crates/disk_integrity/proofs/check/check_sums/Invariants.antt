use Rattle.std.proofs.Common.{◌≡◌, ◌≤◌, ◌++◌, List, ℕ, length, take}
use Rattle.std.specs.List.{AllByRecursion}
use Rattle.disk_integrity.specs.Lines.{AreSums, HasNoEnd, with_ends}
use Rattle.disk_integrity.specs.Running.{IsSumOf, size_of}
use Rattle.disk_integrity.proofs.check.check_sums.Given as goal

abbrev pub invariant-loop-line : goal.invariant-loop-line
invariant-loop-line l = record {
  within : size_of l.sum ≤ length l.segment;
  of : IsSumOf l.sum (take (size_of l.sum) l.segment);
  so_far : (before : List (List ℕ)) × (l.sums ≡ with_ends before ++ l.rest) × AllByRecursion HasNoEnd before × AreSums l.segment before (size_of l.sum);
}

abbrev pub decreases-loop-line : goal.decreases-loop-line
decreases-loop-line l = length l.rest
