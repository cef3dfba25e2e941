-- Laws of the definitions.
use Rattle.std.specs.Prelude.{◌≡◌, ◌⊎◌, ℕ, true, List, [], ◌∷◌, drop}
use Rattle.canvas_shelf.specs.Disk.{Segment, Content, Image, IsSound, top_is_listed}
use Rattle.canvas_shelf.specs.Moments.{LeftSince}
use Rattle.canvas_etcd.specs.Safe.{IsSafe}
use Rattle.canvas_etcd.specs.Stores.{Stored, NumbersFall, IsFresh, MayFind, may_be, changed_by, stored_disks}
use Rattle.canvas_etcd.specs.declared.change.ShelfChange.{ShelfChange}

-- what a freshly opened shelf is: sound, its highest segment listed, and left as it stands by whatever happens
pub record IsAsFound (v : Stored) : Type 0 where
  pub sound : IsSound v.disk
  pub top : top_is_listed v.disk ≡ true
  pub only : (left : Content) → Image v.disk left → left ≡ v.held
  pub found : (found : Content) → MayFind v found → Image v.disk found

abbrev pub EachFreshIsAsFound : Type 0
EachFreshIsAsFound = (v : Stored) → NumbersFall v.held → IsFresh v → IsAsFound v

-- who takes the document over at one of these moments may find this
abbrev pub AnyFinds : List Stored → Content → Type 0
AnyFinds [] found = ⊥
AnyFinds (v ∷ moments) found = MayFind v found ⊎ AnyFinds moments found

-- who takes it over now, or took it over at a moment from this one on, may find this; moments count from 0
abbrev pub FoundSince : List Stored → Stored → ℕ → Content → Type 0
FoundSince past now t found = AnyFinds (drop t past) found ⊎ MayFind now found

-- whatever is found at a moment of a shelf is what a crash of its disk since then may have left
abbrev pub EachTakeoverIsACrash : Type 0
EachTakeoverIsACrash = (past : List Stored) (now : Stored) (t : ℕ) (found : Content) → IsSafe past now → FoundSince past now t found → LeftSince (stored_disks past) now.disk t found

-- a sound disk stays sound, whatever the shelf becomes that it may
abbrev pub EachNoteKeepsSound : Type 0
EachNoteKeepsSound = (change : ShelfChange) (n : ℕ) (bytes : List ℕ) (disk : List Segment) → IsSound disk → may_be change n disk ≡ true → IsSound (changed_by change n bytes disk)
