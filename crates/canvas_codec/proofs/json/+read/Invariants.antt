use Rattle.std.proofs.Common.{◌≡◌, ◌+◌, take, Some}
use Rattle.serde_json.specs.View.{view, items_view}
use Rattle.canvas_codec.specs.Json.{read}
use Rattle.canvas_codec.specs.ReadList.{read_list}
use Rattle.canvas_codec.proofs.DataSizes.{data_size, items_size}
use Rattle.canvas_codec.proofs.json.+read.Given as goal

abbrev pub decreases-read : goal.decreases-read
decreases-read g l = data_size (view l.json.now)

abbrev pub decreases-read_array : goal.decreases-read_array
decreases-read_array g l = items_size (items_view l.items.now) + 1

abbrev pub decreases-read_items : goal.decreases-read_items
decreases-read_items g l = items_size (items_view l.items.now)

abbrev pub invariant-read_items-loop-item : goal.invariant-read_items-loop-item
invariant-read_items-loop-item g l = read_list (λ v. read (view v)) (take l.item-index l.items) ≡ Some (l.found.items, l.all_fit)
