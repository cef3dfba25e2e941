use Rattle.std.proofs.Common.{◌≡◌, take, Some}
use Rattle.serde_json.specs.View.{view}
use Rattle.canvas_codec.specs.ReadList.{read_list}
use Rattle.canvas_forms.specs.Ids.{id_form}
use Rattle.canvas_forms.proofs.outcomes.read_ids.Given as goal

-- the first ids are read
abbrev pub invariant-loop-item : goal.invariant-loop-item
invariant-loop-item g l = read_list (λ v. id_form.read (view v)) (take l.item-index l.items) ≡ Some (l.ids.items, l.all_fit)
