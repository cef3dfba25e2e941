use Rattle.std.proofs.Common.{◌≡◌, All, map}
use Rattle.canvas_model.specs.Change.{HoldsShallow}
use Rattle.canvas_doc.specs.Seen.{seen}
use Rattle.canvas_embed.proofs.saves.finish_waiting.Given as goal

-- the first ones are made, and none is too deep
abbrev pub invariant-loop-variant : goal.invariant-loop-variant
invariant-loop-variant l = record {
  made : l.changes.items ≡ map seen l.yielded;
  shallow : All HoldsShallow (map seen l.yielded);
}
