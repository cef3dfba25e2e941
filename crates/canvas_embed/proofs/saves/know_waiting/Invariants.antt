use Rattle.std.proofs.Common.{◌≡◌, ◌<◌, ℕ, Some}
use Rattle.std.specs.Prelude.{slice_get}
use Rattle.canvas_model.specs.Change.{Change}
use Rattle.canvas_embed.specs.Saves.{IsSoundChange}
use Rattle.canvas_embed.proofs.saves.know_waiting.Given as goal

-- so are the first ones
abbrev pub invariant-loop-index : goal.invariant-loop-index
invariant-loop-index l = (k : ℕ) (x : Change) → k < l.index → slice_get l.client.waiting k ≡ Some x → IsSoundChange x
