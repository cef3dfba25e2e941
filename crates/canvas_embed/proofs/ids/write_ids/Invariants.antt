use Rattle.std.proofs.Common.{◌≡◌, map, take}
use Rattle.serde_json.specs.View.{view}
use Rattle.canvas_forms.specs.Ids.{id_form}
use Rattle.canvas_embed.proofs.ids.write_ids.Given as goal

-- the first ids are written
abbrev pub invariant-loop-id : goal.invariant-loop-id
invariant-loop-id l = map view l.items.items ≡ map id_form.write (take l.id-index l.ids)
