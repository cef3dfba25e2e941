use Rattle.canvas_lines.proofs.Readings.{none_is_bad, one_is_bad}
use Rattle.canvas_lines.proofs.laws.one_bad_line.Goals as goal

pub returns : goal.returns
returns c = record { none = none_is_bad; one = one_is_bad }
