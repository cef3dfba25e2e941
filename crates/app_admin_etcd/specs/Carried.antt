-- A document that went from one shelf to another.
use Rattle.std.specs.Prelude.{◌≡◌, ℕ, List, Option, Some, None}
use Rattle.canvas_shelf.specs.Disk.{Content, Image, Segment, seen}
use Rattle.canvas_journal.specs.Found.{Finds, IsState}
use Rattle.canvas_journal.specs.Meaning.{Versioned}

-- recovery finds this state on the first disk, and on whatever a crash leaves of the second
abbrev pub IsCarried : List Segment → List Segment → Versioned → Type 0
IsCarried from to s = Finds (seen from) (IsState s) × ((left : Content) → Image to left → Finds left (IsState s))

-- The identity that the one side had is the other's, and the one has none; if it had none, the other has what it had.
abbrev pub IsHandedOver : (had has other_had other_has : Option (List ℕ)) → Type 0
IsHandedOver None has other_had other_has = (has ≡ None) × (other_has ≡ other_had)
IsHandedOver (Some text) has other_had other_has = (has ≡ None) × (other_has ≡ Some text)
