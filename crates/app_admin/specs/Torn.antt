-- The segments above the one that recovery takes.
use Rattle.std.specs.Prelude.{◌≡◌, ◌⊎◌, ◌++◌, ℕ, List, [], ◌∷◌, map, Option, Some, None, if◌then◌else◌}
use Rattle.canvas_shelf.specs.Disk.{Content, Segment, numbers, seen}
use Rattle.canvas_journal.specs.Found.{Finds, IsState}
use Rattle.canvas_journal.specs.Meaning.{Versioned}
use Rattle.disk_integrity.specs.Losses.{is_taken}
use Rattle.disk_integrity.specs.declared.loss.Loss.{Loss}
use Rattle.disk_integrity.specs.declared.trace.Trace.{Trace}
use Rattle.app_admin.specs.Losing.{TellsLoss, number_taken}
use Rattle.app_admin.specs.Taken.{Source, TakesFrom}

-- the numbers before the taken one
abbrev pub torn_above : Option ℕ → List ℕ → List ℕ
torn_above taken [] = []
torn_above taken (n ∷ older) = if is_taken taken n then [] else n ∷ torn_above taken older

-- the segments from the taken one on
abbrev pub from_taken : Option ℕ → Content → Content
from_taken taken [] = []
from_taken taken ((n, bytes) ∷ older) = if is_taken taken n then (n, bytes) ∷ older else from_taken taken older

-- these are the numbers of the listed segments above the one that recovery takes
abbrev pub AreTorn : List Segment → List ℕ → Type 0
AreTorn disk torn = (source : Option Source) × TakesFrom (seen disk) source × (torn ≡ torn_above (number_taken source) (numbers disk))

-- these are they, and if there are any, nothing is lost; or something is lost, and these are none
abbrev pub AreRemovable : List Segment → Option Trace → List ℕ → Type 0
AreRemovable disk trace torn =
    (AreTorn disk torn × ((torn ≡ []) ⊎ TellsLoss disk trace None))
    ⊎ ((torn ≡ []) × (loss : Loss) × TellsLoss disk trace (Some loss))

-- the numbers of segments
abbrev pub numbers_of : Content → List ℕ
numbers_of = map (λ s. s.0)

-- without the segments above the one that it takes, recovery finds the same
abbrev pub TornAreNeedless : Type 0
TornAreNeedless = (held : Content) (source : Option Source) (s : Versioned) → TakesFrom held source → Finds held (IsState s) → Finds (from_taken (number_taken source) held) (IsState s)

-- these and the segments from the taken one on are all
abbrev pub TornAndRestAreAll : Type 0
TornAndRestAreAll = (held : Content) (taken : Option ℕ) → numbers_of held ≡ torn_above taken (numbers_of held) ++ numbers_of (from_taken taken held)
