use Rattle.std.proofs.Common.{refl}
use Rattle.canvas_edit_lines.proofs.edits.read_shallow.Goals as goal

pub same-value : goal.same-value
same-value c = refl
