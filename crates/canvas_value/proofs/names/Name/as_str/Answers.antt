use Rattle.canvas_value.proofs.NameText.{IsUtf8-name}
use Rattle.canvas_value.proofs.names.Name.as_str.Goals as goal

pub unreachable-requires : goal.unreachable-requires
unreachable-requires g c = c.in-Err.ensures.cases.0 (rw c.as_slice.ensures.value (IsUtf8-name c.self.inside.bytes.items c.self.invariant.2))
