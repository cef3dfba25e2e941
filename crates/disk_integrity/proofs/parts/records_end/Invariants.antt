use Rattle.std.proofs.Common.{◌≡◌, ◌≤◌, ◌+◌, length}
use Rattle.canvas_shelf.specs.Records.{records, texts}
use Rattle.disk_integrity.proofs.parts.records_end.Given as goal

abbrev pub invariant-loop-text : goal.invariant-loop-text
invariant-loop-text l = record {
  within : length l.rest ≤ length l.initial.rest;
  left : length l.initial.rest + length (records (texts l.rest)) ≡ length l.rest + length (records (texts l.initial.rest));
}

abbrev pub decreases-loop-text : goal.decreases-loop-text
decreases-loop-text l = length l.rest
