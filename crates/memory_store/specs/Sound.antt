-- A store in memory that fits is sound.
use Rattle.std.proofs.Common.{◌≡◌, ◌&&◌, ℕ, Bool, true, List, [], ◌∷◌}
use Rattle.std.specs.Prelude.{nat_lt, nat_le}
use Rattle.std.proofs.lemmas.Bool.{and_parts, ltb-true}
use Rattle.canvas_shelf.specs.Disk.{Segment, Content, IsSound}
use Rattle.canvas_shelf.specs.Memory.{synced_disk}
use Rattle.canvas_etcd.specs.Stores.{NumbersFall, may_be, changed_by}
use Rattle.canvas_etcd.proofs.Sounds.{sound_fresh, sound_noted}
use Rattle.memory_store.specs.Held.{disk_after}
use Rattle.memory_store.specs.declared.notes.Note.{Note}
use Rattle.memory_store.specs.declared.notes.Moment.{Moment}

-- whether the numbers fall
abbrev pub numbers_fall : Content → Bool
numbers_fall [] = true
numbers_fall (p ∷ []) = true
numbers_fall (p ∷ q ∷ held) = nat_lt q.0 p.0 && numbers_fall (q ∷ held)

-- whether each note was one that might be, of the disk by then
abbrev pub are_legal : List Note → List Segment → Bool
are_legal [] disk = true
are_legal (n ∷ notes) disk = may_be n.change n.number disk && are_legal notes (changed_by n.change n.number n.bytes.items disk)

-- whether no moment has more notes than there are
abbrev pub have_notes : ℕ → List Moment → Bool
have_notes count [] = true
have_notes count (m ∷ past) = nat_le m.notes count && have_notes count past

pub falls_of : (held : Content) → numbers_fall held ≡ true → NumbersFall held
falls_of [] fit = tt
falls_of (p ∷ []) fit = tt
falls_of (p ∷ q ∷ held) fit =
    let both = and_parts (nat_lt q.0 p.0) (numbers_fall (q ∷ held)) fit in
    (ltb-true q.0 p.0 both.0, falls_of (q ∷ held) both.1)

sound_after : (notes : List Note) (disk : List Segment) → IsSound disk → are_legal notes disk ≡ true → IsSound (disk_after notes disk)
sound_after [] disk sound legal = sound
sound_after (n ∷ notes) disk sound legal =
    let both = and_parts (may_be n.change n.number disk) (are_legal notes (changed_by n.change n.number n.bytes.items disk)) legal in
    sound_after notes (changed_by n.change n.number n.bytes.items disk) (sound_noted n.change n.number n.bytes.items disk sound both.0) both.1

pub sound_of_notes : (notes : List Note) (base : Content) → numbers_fall base ≡ true → are_legal notes (synced_disk base) ≡ true → IsSound (disk_after notes (synced_disk base))
sound_of_notes notes base fit legal = sound_after notes (synced_disk base) (sound_fresh base (falls_of base fit)) legal
