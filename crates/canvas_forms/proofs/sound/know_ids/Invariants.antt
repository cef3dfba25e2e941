use Rattle.std.proofs.Common.{All, take}
use Rattle.canvas_model.specs.Ids.{IsId}
use Rattle.canvas_forms.proofs.sound.know_ids.Given as goal

-- the first ones are so
abbrev pub invariant-loop-id : goal.invariant-loop-id
invariant-loop-id l = All IsId (take l.id-index l.ids)
