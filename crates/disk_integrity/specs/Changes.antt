-- What a witness is shown.
use Rattle.std.specs.Prelude.{◌≡◌, ℕ, List, Option, None, Some}
use Rattle.canvas_shelf.specs.Disk.{Segment}
use Rattle.canvas_shelf.specs.Moments.{Goes}
use Rattle.disk_integrity.specs.declared.call.ShelfCall.{ShelfCall}

-- a change of a shelf: a segment was made, bytes were put at its end, all its bytes were synced, or it was taken off the list
pub data WitnessedChange : Type 0 where
  segment_made : ℕ → WitnessedChange
  bytes_added : ℕ → List ℕ → WitnessedChange
  segment_synced : ℕ → WitnessedChange
  segment_retired : ℕ → WitnessedChange

-- the witness sees this change, unless a call has failed before: then it sees nothing
abbrev pub Sees : {W : Type 0} → (W → WitnessedChange → W → Type 0) → Option ShelfCall → WitnessedChange → W → W → Type 0
Sees sees None change old new = sees old change new
Sees sees (Some call) change old new = new ≡ old

-- the disk goes from the one to the other, by a call that would change it so
abbrev pub GoesBy : (List Segment → List Segment) → List (List Segment) → List Segment → List (List Segment) → List Segment → Type 0
GoesBy change before old since new = Goes before old (change old) since new
