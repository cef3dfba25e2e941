-- Notes, one more of which comes.
use Rattle.std.proofs.Common.{◌≡◌, ◌≤◌, ℕ, List, [], ◌∷◌, ◌++◌, length, take, refl, ◌∙◌, ap, arith, length-append}
use Rattle.std.proofs.lemmas.List.{take_all, take-append-le}
use Rattle.canvas_shelf.specs.Disk.{Segment, Content}
use Rattle.canvas_shelf.specs.Memory.{synced_disk}
use Rattle.std.specs.Prelude.{nat_le, nat_lt, true}
use Rattle.std.proofs.lemmas.Bool.{and_parts, and_from, leb-true, le-leb, lt-ltb}
use Rattle.canvas_etcd.specs.Stores.{Stored, NumbersFall, may_be, changed_by}
use Rattle.memory_store.specs.Held.{held_content, lost_of, disk_after, stored_at, stored_each, HaveNotes}
use Rattle.memory_store.specs.Sound.{numbers_fall, are_legal, have_notes}
use Rattle.memory_store.specs.declared.notes.Note.{Note}
use Rattle.memory_store.specs.declared.notes.Moment.{Moment}

pub after_push : (notes : List Note) (n : Note) (d : List Segment) → disk_after (notes ++ n ∷ []) d ≡ changed_by n.change n.number n.bytes.items (disk_after notes d)
after_push [] n d = refl
after_push (m ∷ notes) n d = after_push notes n (changed_by m.change m.number m.bytes.items d)

pub after_all : (notes : List Note) (count : ℕ) (d : List Segment) → count ≡ length notes → disk_after (take count notes) d ≡ disk_after notes d
after_all notes count d is = ap (λ (l : List Note). disk_after l d) (take_all count notes (omega (arith, is)))

at_stays : (notes : List Note) (n : Note) (base : Content) (m : Moment) → m.notes ≤ length notes → stored_at (notes ++ n ∷ []) base m ≡ stored_at notes base m
at_stays notes n base m within =
    ap (λ (l : List Note). let w : Stored = record { held = held_content m.held.items; unanswered = lost_of m.lost; disk = disk_after l (synced_disk base) } in w) (take-append-le m.notes notes (n ∷ []) within)

-- no earlier moment is another by it
pub each_stays : (notes : List Note) (n : Note) (base : Content) (past : List Moment) → HaveNotes (length notes) past → stored_each (notes ++ n ∷ []) base past ≡ stored_each notes base past
each_stays notes n base [] all = refl
each_stays notes n base (m ∷ past) all =
    ap (λ (w : Stored). w ∷ stored_each (notes ++ n ∷ []) base past) (at_stays notes n base m all.0)
    ∙ ap (λ (l : List Stored). stored_at notes base m ∷ l) (each_stays notes n base past all.1)

pub have_more : (count more : ℕ) (past : List Moment) → count ≤ more → HaveNotes count past → HaveNotes more past
have_more count more [] less all = tt
have_more count more (m ∷ past) less all = (omega (arith, less, all.0), have_more count more past less all.1)

pub have_push : (count : ℕ) (past : List Moment) (m : Moment) → m.notes ≤ count → HaveNotes count past → HaveNotes count (past ++ m ∷ [])
have_push count [] m less all = (less, tt)
have_push count (p ∷ past) m less all = (all.0, have_push count past m less all.1)

-- the same, by tests
pub notes_of : (count : ℕ) (past : List Moment) → have_notes count past ≡ true → HaveNotes count past
notes_of count [] fit = tt
notes_of count (m ∷ past) fit = let both = and_parts (nat_le m.notes count) (have_notes count past) fit in (leb-true m.notes count both.0, notes_of count past both.1)

pub notes_back : (count : ℕ) (past : List Moment) → HaveNotes count past → have_notes count past ≡ true
notes_back count [] all = refl
notes_back count (m ∷ past) all = and_from (nat_le m.notes count) (have_notes count past) (le-leb m.notes count all.0) (notes_back count past all.1)

pub legal_push : (notes : List Note) (n : Note) (d : List Segment) → are_legal notes d ≡ true → may_be n.change n.number (disk_after notes d) ≡ true → are_legal (notes ++ n ∷ []) d ≡ true
legal_push [] n d legal may = and_from (may_be n.change n.number d) true may refl
legal_push (m ∷ notes) n d legal may =
    let both = and_parts (may_be m.change m.number d) (are_legal notes (changed_by m.change m.number m.bytes.items d)) legal in
    and_from (may_be m.change m.number d) (are_legal (notes ++ n ∷ []) (changed_by m.change m.number m.bytes.items d)) both.0 (legal_push notes n (changed_by m.change m.number m.bytes.items d) both.1 may)

pub falls_back : (held : Content) → NumbersFall held → numbers_fall held ≡ true
falls_back [] falls = refl
falls_back (p ∷ []) falls = refl
falls_back (p ∷ q ∷ held) falls = and_from (nat_lt q.0 p.0) (numbers_fall (q ∷ held)) (lt-ltb q.0 p.0 falls.0) (falls_back (q ∷ held) falls.1)

-- a moment is kept
pub have_kept : (count : ℕ) (past new : List Moment) (m : Moment) → new ≡ past ++ m ∷ [] → m.notes ≤ count → have_notes count past ≡ true → have_notes count new ≡ true
have_kept count past new m is within fit = ap (have_notes count) is ∙ notes_back count (past ++ m ∷ []) (have_push count past m within (notes_of count past fit))

-- a note is added
pub legal_added : (notes new : List Note) (n : Note) (d : List Segment) → new ≡ notes ++ n ∷ [] → are_legal notes d ≡ true → may_be n.change n.number (disk_after notes d) ≡ true → are_legal new d ≡ true
legal_added notes new n d is legal may = ap (λ (l : List Note). are_legal l d) is ∙ legal_push notes n d legal may

pub fits_added : (notes new : List Note) (n : Note) (past : List Moment) → new ≡ notes ++ n ∷ [] → have_notes (length notes) past ≡ true → have_notes (length new) past ≡ true
fits_added notes new n past is fit =
    let more : length notes ≤ length (notes ++ n ∷ []) = omega (arith, length-append notes (n ∷ [])) in
    ap (λ (l : List Note). have_notes (length l) past) is ∙ notes_back (length (notes ++ n ∷ [])) past (have_more (length notes) (length (notes ++ n ∷ [])) past more (notes_of (length notes) past fit))

pub stays_added : (notes new : List Note) (n : Note) (base : Content) (past : List Moment) → new ≡ notes ++ n ∷ [] → have_notes (length notes) past ≡ true → stored_each new base past ≡ stored_each notes base past
stays_added notes new n base past is fit = ap (λ (l : List Note). stored_each l base past) is ∙ each_stays notes n base past (notes_of (length notes) past fit)
