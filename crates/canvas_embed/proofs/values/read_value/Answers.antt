-- The value that is read is the one that was looked at.
use Rattle.std.proofs.Common.{refl}
use Rattle.canvas_embed.proofs.values.read_value.Goals as goal

pub same-value : goal.same-value
same-value c = refl
