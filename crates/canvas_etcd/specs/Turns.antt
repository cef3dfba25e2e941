-- The order of an owner's transactions: each compares what the owner's key says with what the one before wrote there, and writes its own.
use Rattle.std.specs.Prelude.{◌≡◌, ◌≢◌, ◌⊎◌, ◌<◌, ◌≤◌, ℕ, ◌+◌, Bool, true, false, ◌&&◌, ◌||◌, ◌==◌, Option, Some, None, List, [], ◌∷◌, if◌then◌else◌}
use Rattle.std.specs.List.{AllByRecursion}
use Rattle.canvas_shelf.specs.Disk.{Content}
use Rattle.canvas_etcd.specs.Stores.{Transaction, content_after}
use Rattle.canvas_etcd.specs.declared.turn.OwnerMark.{OwnerMark}
use Rattle.canvas_etcd.specs.declared.turn.Turn.{Turn}

-- what stands: what the owner's key says, if it is there, and the segments
pub record Owned : Type 0 where
  pub mark : Option OwnerMark
  pub held : Content

-- WHAT A TRANSACTION MAKES OF IT

-- the owner's key says this
abbrev pub says : Option OwnerMark → Option OwnerMark → Bool
says None None = true
says None (Some n) = false
says (Some m) None = false
says (Some m) (Some n) = m.owner == n.owner && m.number == n.number

abbrev pub all_done : List Transaction → Content → Content
all_done [] held = held
all_done (t ∷ ts) held = all_done ts (content_after t held)

-- what it is once these changes were asked for in this turn
abbrev pub committed : Turn → List Transaction → Owned → Owned
committed turn changes s = if says s.mark turn.from then record { mark = Some turn.to; held = all_done changes s.held } else s

-- whether they are told as done: they are now, or the key says what they write
abbrev pub is_told : Turn → Owned → Bool
is_told turn s = says s.mark turn.from || says s.mark (Some turn.to)

-- STEPS

pub data OwnerStep : Type 0 where
  -- changes are asked for
  Commits : Turn → List Transaction → OwnerStep
  -- the owner's key goes: its lease has ended, or it was released or deleted
  Ends : OwnerStep

abbrev pub stepped : OwnerStep → Owned → Owned
stepped (Commits turn changes) s = committed turn changes s
stepped Ends s = record s { mark = None }

abbrev pub run : List OwnerStep → Owned → Owned
run [] s = s
run (step ∷ steps) s = run steps (stepped step s)

-- NUMBERS

-- a turn of this mark's owner, with a higher number
pub record Rises (last : OwnerMark) (turn : Turn) : Type 0 where
  pub from : turn.from ≡ Some last
  pub owner : turn.to.owner ≡ last.owner
  pub number : last.number < turn.to.number

-- the turn after this mark, with the number after the highest that was given
pub record IsNextTurn (last : OwnerMark) (begun : ℕ) (turn : Turn) : Type 0 where
  pub rises : Rises last turn
  pub number : turn.to.number ≡ begun + 1

-- the mark is another owner's, or this one's from this number on
abbrev pub IsFrom : OwnerMark → OwnerMark → Type 0
IsFrom least mark = (mark.owner ≡ least.owner → ⊥) ⊎ (least.number ≤ mark.number)

-- what a step writes isn't below this mark
abbrev pub WritesFrom : OwnerMark → OwnerStep → Type 0
WritesFrom least (Commits turn changes) = IsFrom least turn.to
WritesFrom least Ends = Unit {0}

-- a step writes another mark
abbrev pub WritesAnother : OwnerMark → OwnerStep → Type 0
WritesAnother mark (Commits turn changes) = says (Some turn.to) (Some mark) ≡ false
WritesAnother mark Ends = Unit {0}

-- the owner's key isn't there, is another's, or was written before this mark
abbrev pub IsBeforeMark : OwnerMark → Option OwnerMark → Type 0
IsBeforeMark mark None = Unit {0}
IsBeforeMark mark (Some n) = (n.owner ≡ mark.owner → ⊥) ⊎ (n.number < mark.number)

-- LAWS

pub record IsDoneOnce (turn : Turn) (changes : List Transaction) (s : Owned) : Type 0 where
  pub once : committed turn changes (committed turn changes s) ≡ committed turn changes s
  pub told : is_told turn s ≡ true → is_told turn (committed turn changes s) ≡ true

abbrev pub EachRepeatIsDoneOnce : Type 0
EachRepeatIsDoneOnce = (turn : Turn) (changes : List Transaction) (s : Owned) → says (Some turn.to) turn.from ≡ false → IsDoneOnce turn changes s

abbrev pub EachLateOneChangesNothing : Type 0
EachLateOneChangesNothing = (last : OwnerMark) (turn : Turn) (changes : List Transaction) (later : List OwnerStep) (s : Owned)
    → Rises last turn → s.mark ≡ Some turn.to → AllByRecursion (WritesFrom turn.to) later → committed turn changes (run later s) ≡ run later s

pub record IsRefused (turn : Turn) (changes : List Transaction) (s : Owned) : Type 0 where
  pub same : committed turn changes s ≡ s
  pub told : is_told turn s ≡ false

abbrev pub EachPutBackIsRefused : Type 0
EachPutBackIsRefused = (last : OwnerMark) (turn : Turn) (changes : List Transaction) (s : Owned) → Rises last turn → IsBeforeMark last s.mark → IsRefused turn changes s

abbrev pub EachToldOneWasDone : Type 0
EachToldOneWasDone = (turn : Turn) (steps : List OwnerStep) (s : Owned)
    → says s.mark (Some turn.to) ≡ false → AllByRecursion (WritesAnother turn.to) steps → is_told turn (run steps s) ≡ true → says (run steps s).mark turn.from ≡ true
