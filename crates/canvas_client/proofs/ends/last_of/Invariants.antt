use Rattle.std.proofs.Common.{ℕ, ◌+◌, ◌≤◌, ◌<◌, length, get_or}
use Rattle.canvas_model.specs.declared.ObjId.{ObjId}
use Rattle.canvas_model.specs.Document.{Pos}
use Rattle.canvas_model.specs.Sibling.{IsSibling}
use Rattle.canvas_client.proofs.ends.last_of.Given as goal

-- no child that was passed, from the end on, is counted
abbrev pub invariant-loop-i : goal.invariant-loop-i
invariant-loop-i g l = (k : ℕ) (x : ObjId) → length l.ids ≤ k + l.i → k < length l.ids → (pos : Pos) → IsSibling l.view l.parent l.except (get_or l.ids k x) pos → ⊥
