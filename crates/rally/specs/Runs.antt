-- What a run of the program does, by the words that it is called with.
use Rattle.std.specs.Prelude.{◌≡◌, ◌⊎◌, ℕ, Bool, List, Option}
use Rattle.canvas_daemon.specs.declared.fault.DaemonFault.{DaemonFault}
use Rattle.canvas_daemon.specs.declared.fault.DaemonFault.TheVariants.{Usage}
use Rattle.canvas_daemon.specs.Runs.{Leaves, trial_status}
use Rattle.canvas_daemon.specs.Served.{IsServeFault}
use Rattle.rally.specs.Faults.{IsRallyEnd}
use Rattle.rally.specs.Rallied.{WritesRally}
use Rattle.rally.specs.Words.{AskForRally}

-- the words ask for nothing
abbrev pub AskForNoRally : List (List ℕ) → Type 0
AskForNoRally words = (dir : List ℕ) (clients edits : ℕ) → AskForRally words dir clients edits → ⊥

-- the words ask for a rally, and it was done to its end
abbrev pub DoesRally : List (List ℕ) → Bool → (written after : Option (List ℕ)) → Type 0
DoesRally words equal written after = (dir : List ℕ) × (clients : ℕ) × (edits : ℕ) × AskForRally words dir clients edits × WritesRally equal written after

-- the words ask for a rally that this fault ended; or they ask for nothing, which is the fault
abbrev pub FailsRally : List (List ℕ) → (written after : Option (List ℕ)) → DaemonFault → Type 0
FailsRally words written after fault =
    ((dir : List ℕ) × (clients : ℕ) × (edits : ℕ) × AskForRally words dir clients edits × IsServeFault clients fault × Leaves fault (after ≡ written))
    ⊎ ((fault ≡ Usage) × AskForNoRally words × (after ≡ written))

-- What a run did, by its words and its status: a rally to its end, and then no fault was told; or a fault ended it, which was told.
abbrev pub IsRallyRun : List (List ℕ) → ℕ → (written after faults told : Option (List ℕ)) → Type 0
IsRallyRun words status written after faults told =
    ((equal : Bool) × (status ≡ trial_status equal) × DoesRally words equal written after × (told ≡ faults))
    ⊎ ((fault : DaemonFault) × FailsRally words written after fault × IsRallyEnd fault status faults told)
