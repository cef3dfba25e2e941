-- What a store in memory stands for.
use Rattle.std.specs.Prelude.{◌≤◌, ℕ, Option, Some, None, List, [], ◌∷◌, map, take}
use Rattle.std.specs.List.{AllByRecursion}
use Rattle.canvas_shelf.specs.Disk.{Segment, Content}
use Rattle.canvas_shelf.specs.Memory.{synced_disk}
use Rattle.canvas_etcd.specs.Stores.{Stored, Transaction, Puts, Removes, changed_by}
use Rattle.memory_store.specs.declared.held.Held.{Held}
use Rattle.memory_store.specs.declared.lost.Lost.{Lost}
use Rattle.memory_store.specs.declared.lost.Lost.TheVariants.{Put, Remove}
use Rattle.memory_store.specs.declared.notes.Note.{Note}
use Rattle.memory_store.specs.declared.notes.Moment.{Moment}

abbrev pub held_segment : Held → ℕ × List ℕ
held_segment h = (h.number, h.bytes.items)

-- the segments that stand
abbrev pub held_content : List Held → Content
held_content = map held_segment

abbrev pub transaction : Lost → Transaction
transaction (Put n bytes) = Puts n bytes.items
transaction (Remove n) = Removes n

-- the transaction that wasn't answered, if there was one
abbrev pub lost_of : Option Lost → Option Transaction
lost_of None = None
lost_of (Some lost) = Some (transaction lost)

-- the disk that this one became, note by note
abbrev pub disk_after : List Note → List Segment → List Segment
disk_after [] disk = disk
disk_after (n ∷ notes) disk = disk_after notes (changed_by n.change n.number n.bytes.items disk)

-- what the store was at a moment
abbrev pub stored_at : List Note → Content → Moment → Stored
stored_at notes base m = record { held = held_content m.held.items; unanswered = lost_of m.lost; disk = disk_after (take m.notes notes) (synced_disk base) }

abbrev pub stored_each : List Note → Content → List Moment → List Stored
stored_each notes base = map (stored_at notes base)

-- no moment has more notes than there are
abbrev pub HaveNotes : ℕ → List Moment → Type 0
HaveNotes count = AllByRecursion (λ (m : Moment). m.notes ≤ count)
