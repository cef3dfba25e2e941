use Rattle.std.proofs.Common.{◌≡◌, ◌++◌, length}
use Rattle.std.specs.Vec.Iter.{into_iter_items, into_iter_len}
use Rattle.std.specs.FinMap as map
use Rattle.canvas_model.specs.Ids.{id_cmp}
use Rattle.canvas_model.specs.Document.{place_of}
use Rattle.canvas_doc.specs.Spots.{AreSpots}
use Rattle.canvas_doc.proofs.rows.rows_and_spots.Given as goal

abbrev pub invariant-loop-id : goal.invariant-loop-id
invariant-loop-id g l = (l.rows ++ into_iter_items l.id-iterator ≡ into_iter_items l.initial.id-iterator)
    × AreSpots (place_of (map.from_sorted {R = id_cmp} l.rows)) l.spots
    × (into_iter_len l.id-iterator ≡ length (into_iter_items l.id-iterator))
