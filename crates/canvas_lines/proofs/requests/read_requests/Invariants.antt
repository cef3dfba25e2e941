use Rattle.std.proofs.Common.{◌≡◌, ◌+◌, ◌≤◌, length, map, take, drop}
use Rattle.canvas_lines.specs.Lines.{lines_of, meaningful}
use Rattle.canvas_lines.specs.Seen.{seen_log_request}
use Rattle.canvas_lines.proofs.Readings.{SoFar}
use Rattle.canvas_lines.proofs.requests.read_requests.Given as goal

abbrev pub invariant-loop-line : goal.invariant-loop-line
invariant-loop-line l = record {
  left : drop l.line_number (lines_of l.input) ≡ lines_of l.rest;
  counted : l.line_number + length l.rest ≤ length l.input;
  read : SoFar l.started (meaningful (take l.line_number (lines_of l.input))) (map seen_log_request l.requests.items);
}

abbrev pub decreases-loop-line : goal.decreases-loop-line
decreases-loop-line l = length l.rest
