use Rattle.std.proofs.Common.{◌≡◌, map, take, Some}
use Rattle.serde_json.specs.View.{view}
use Rattle.canvas_codec.specs.ReadList.{read_list}
use Rattle.canvas_doc.specs.Seen.{seen}
use Rattle.canvas_forms.specs.Changes.{change_form}
use Rattle.canvas_embed.proofs.saves.read_each.Given as goal

-- the first ones are read
abbrev pub invariant-loop-item : goal.invariant-loop-item
invariant-loop-item l = read_list (λ v. change_form.read (view v)) (take l.item-index l.items) ≡ Some (map seen l.changes.items, l.all_fit)
