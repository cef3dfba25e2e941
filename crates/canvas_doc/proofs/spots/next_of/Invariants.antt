use Rattle.std.proofs.Common.{◌≡◌, ℕ, ◌≤◌, drop, length}
use Rattle.std.specs.Option.{option_copied}
use Rattle.std.specs.FinMap as map
use Rattle.canvas_model.specs.Ids.{id_cmp}
use Rattle.canvas_model.specs.Document.{place_of}
use Rattle.canvas_doc.specs.Spots.{IsFirst}
use Rattle.canvas_doc.proofs.Nearest.{Passed}
use Rattle.canvas_doc.proofs.spots.next_of.Given as goal

abbrev pub invariant-loop-spot : goal.invariant-loop-spot
invariant-loop-spot g l =
    (first : ℕ) × IsFirst (place_of (map.from_sorted {R = id_cmp} l.rows)) l.parent (option_copied l.after) l.fn.spots first × (n : ℕ) × (l.rest ≡ drop n l.fn.spots) × (first ≤ n) × Passed (map.from_sorted {R = id_cmp} l.rows) l.fn.spots l.parent (option_copied l.after) l.except n

abbrev pub decreases-loop-spot : goal.decreases-loop-spot
decreases-loop-spot g l = length l.rest
