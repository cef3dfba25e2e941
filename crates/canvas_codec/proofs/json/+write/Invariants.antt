use Rattle.std.proofs.Common.{◌≡◌, ◌+◌, ◌*◌, ◌∷◌, codes, take, map}
use Rattle.serde_json.specs.Data.{string}
use Rattle.serde_json.specs.View.{view}
use Rattle.canvas_model.specs.Value.{values_of}
use Rattle.canvas_codec.specs.Json.{json}
use Rattle.canvas_value.specs.Sizes.{value_size, values_size}
use Rattle.canvas_codec.proofs.json.+write.Given as goal

abbrev pub decreases-write : goal.decreases-write
decreases-write g l = 2 * value_size l.value.now

abbrev pub decreases-write_list : goal.decreases-write_list
decreases-write_list g l = 2 * values_size (values_of l.members.now) + 1

-- the word and the first members are written
abbrev pub invariant-write_list-loop-member : goal.invariant-write_list-loop-member
invariant-write_list-loop-member g l = map view l.items.items ≡ string (codes "list") ∷ map json (take l.member-index l.members)
