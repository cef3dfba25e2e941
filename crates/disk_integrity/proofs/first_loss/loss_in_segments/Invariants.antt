use Rattle.std.proofs.Common.{◌≡◌, ◌++◌, take, drop}
use Rattle.std.specs.List.{AllByRecursion}
use Rattle.disk_integrity.specs.Losses.{MayBeLeftIfTaken, down_to}
use Rattle.disk_integrity.proofs.first_loss.loss_in_segments.Given as goal

abbrev pub invariant-loop-one : goal.invariant-loop-one
invariant-loop-one l = record {
  each : AllByRecursion (MayBeLeftIfTaken l.taken l.checkpoint) (take l.one-index l.listed);
  above : down_to l.taken l.listed ≡ take l.one-index l.listed ++ down_to l.taken (drop l.one-index l.listed);
}
