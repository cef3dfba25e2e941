use Rattle.std.proofs.Common.{◌≡◌, map, take}
use Rattle.serde_json.specs.View.{view}
use Rattle.canvas_forms.specs.Changes.{change_form}
use Rattle.canvas_embed.proofs.saves.write_waiting.Given as goal

-- the first ones are written
abbrev pub invariant-loop-index : goal.invariant-loop-index
invariant-loop-index l = map view l.items.items ≡ map change_form.write (take l.index l.client.waiting)
