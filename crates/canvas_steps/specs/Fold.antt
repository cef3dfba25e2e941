-- Waiting edits of one field, of which a later one replaces an earlier one.
use Rattle.std.specs.Prelude.{◌≡◌, ◌≤◌, ◌+◌, ◌||◌, not, ℕ, Bool, true, false, List, [], ◌∷◌, ◌++◌, length}
use Rattle.std.specs.List.{list_any}
use Rattle.canvas_model.specs.declared.ObjId.{ObjId}
use Rattle.canvas_model.specs.Document.{Doc}
use Rattle.canvas_model.specs.Change.{Change, Set, Move}
use Rattle.canvas_model.specs.Overlay.{over}
use Rattle.canvas_model.specs.View.{creates_it, moves_it, sets_it}
use Rattle.canvas_model.specs.Client.{Client}
use Rattle.canvas_model.specs.Standing.{AreOwn, Stands}

-- the change sets or clears a property
abbrev pub is_set : Change → Bool
is_set (Set id name value) = true
is_set _ = false

-- the later change writes what the earlier one wrote: the same property of an object, or the place of an object that isn't the root
abbrev pub overwrites : Change → Change → Bool
overwrites (Set id name value) early = sets_it id name early
overwrites (Move id place) early = moves_it id early
overwrites _ early = false

-- The later change must stay after this one: a property after each creation of its object and each change of that property, a place
-- after all but properties, since the server may refuse a move before them.
abbrev pub hangs_on : Change → Change → Bool
hangs_on (Set id name value) change = creates_it id change || sets_it id name change
hangs_on (Move id place) change = not (is_set change)
hangs_on _ change = true

-- the later change may replace the earlier one, with these between
abbrev pub MayFold : Change → List Change → Change → Type 0
MayFold early between late = (overwrites late early ≡ true) × (list_any (hangs_on late) between ≡ false)

-- the last change of the old list replaces the one at this index, as it may; the new list has all others as they were
abbrev pub FoldsAt : ℕ → List Change → List Change → Type 0
FoldsAt at old new = (before : List Change) × (between : List Change) × (early : Change) × (late : Change) × (length before ≡ at) × MayFold early between late
    × (old ≡ before ++ early ∷ between ++ late ∷ []) × (new ≡ before ++ late ∷ between)

-- the last change may replace the one at this index
abbrev pub CanFoldAt : ℕ → List Change → Type 0
CanFoldAt at changes = (before : List Change) × (between : List Change) × (early : Change) × (late : Change) × (length before ≡ at) × MayFold early between late
    × (changes ≡ before ++ early ∷ between ++ late ∷ [])

-- the last change may replace none of those from this index on
abbrev pub FoldsNowhere : ℕ → List Change → Type 0
FoldsNowhere first changes = (before between : List Change) (early late : Change) → changes ≡ before ++ early ∷ between ++ late ∷ [] → first ≤ length before → MayFold early between late → ⊥

-- the shorter list shows the same over every document
abbrev pub EachFoldShowsTheSame : Type 0
EachFoldShowsTheSame = (d : Doc) (at : ℕ) (old new : List Change) → FoldsAt at old new → over d new ≡ over d old

-- it creates the same objects
abbrev pub EachFoldCreatesTheSame : Type 0
EachFoldCreatesTheSame = (q : ObjId) (at : ℕ) (old new : List Change) → FoldsAt at old new → list_any (creates_it q) new ≡ list_any (creates_it q) old

-- it is one shorter
abbrev pub EachFoldIsOneLess : Type 0
EachFoldIsOneLess = (at : ℕ) (old new : List Change) → FoldsAt at old new → length old ≡ length new + 1

-- if what it created was a client's own, it is still
abbrev pub EachFoldKeepsOwn : Type 0
EachFoldKeepsOwn = (c counter at : ℕ) (old new : List Change) → FoldsAt at old new → AreOwn c counter old → AreOwn c counter new

-- the client's last edit has replaced the one at this index of those that wait; nothing else is new, not even the view
abbrev pub HasFolded : ℕ → Client → Client → Type 0
HasFolded at old new = FoldsAt at old.waiting new.waiting × (new ≡ record old { waiting = new.waiting })

-- such a client stands on each document on which it stood
abbrev pub EachFoldStands : Type 0
EachFoldStands = (d : Doc) (at : ℕ) (old new : Client) → HasFolded at old new → Stands old d → Stands new d
