use Rattle.std.proofs.Common.{◌≤◌, ◌^◌, vec_len}
use Rattle.std.specs.Io.KnownBytes.{Consumes}
use Rattle.canvas_lines.proofs.streams.read_input.Given as goal

abbrev pub invariant-loop : goal.invariant-loop
invariant-loop g l = (vec_len l.text ≤ 2 ^ 30) × Consumes (g.R.Read.remaining l.initial.input) (g.R.Read.remaining l.input) l.text.items
