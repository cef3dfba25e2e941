-- What `canvasd edit` makes of its whole input, and what it leaves where a fault ends it.
use Rattle.std.specs.Prelude.{◌≡◌, ◌⊎◌, ℕ, ◌+◌, List, [], ◌∷◌, ◌++◌, length, Option, None, Some, IfSome}
use Rattle.std.specs.Io.KnownBytes.{Appends, IsAtEnd}
use Rattle.canvas_model.specs.Client.{Client}
use Rattle.canvas_nodes.specs.GoesOn.{GoesOn}
use Rattle.canvas_lines.specs.Lines.{lines_of}
use Rattle.canvas_daemon.specs.declared.fault.DaemonFault.{DaemonFault}
use Rattle.canvas_daemon.specs.declared.fault.DaemonFault.TheVariants.{Usage, BadLine, Memory, Device, Damaged, TooLarge}
use Rattle.canvas_daemon.specs.Answered.{HasJoined, IsOwnBlock, IsUnreadable, PlaysEach, version_and_waiting_line}

-- these lines were taken from the front of the input, where what it holds is known
abbrev pub TakesLines : Option (List ℕ) → Option (List ℕ) → List (List ℕ) → Type 0
TakesLines None left lines = Unit {0}
TakesLines (Some xs) None lines = ⊥
TakesLines (Some xs) (Some ys) lines = lines_of xs ≡ lines ++ lines_of ys

-- the input begins with these lines, where what it holds is known
abbrev pub BeginsWith : Option (List ℕ) → List (List ℕ) → Type 0
BeginsWith read lines = (left : Option (List ℕ)) × TakesLines read left lines

-- nothing is left of the input, where it was known what it held
abbrev pub HasEnded : Option (List ℕ) → Option (List ℕ) → Type 0
HasEnded read left = IfSome read (λ xs. IsAtEnd left)

-- lines were taken and answered, from this client on to that one, and the answers were written
pub record PlaysLines (old : Client) (read left written after : Option (List ℕ)) (new : Client) : Type 0 where
  pub lines : List (List ℕ)
  pub answers : List ℕ
  pub taken : TakesLines read left lines
  pub played : PlaysEach old lines answers new
  pub is_written : Appends written after answers

-- all lines of the input were taken and answered
abbrev pub PlaysAll : Client → (read left written after : Option (List ℕ)) → Client → Type 0
PlaysAll old read left written after new = PlaysLines old read left written after new × HasEnded read left

-- the n-th line, from 1, can't be read; those before it were answered, and no more was written
pub record EndsAtBadLine (old : Client) (read left written after : Option (List ℕ)) (n : ℕ) : Type 0 where
  pub lines : List (List ℕ)
  pub line : List ℕ
  pub answers : List ℕ
  pub new : Client
  pub counted : n ≡ length lines + 1
  pub taken : TakesLines read left (lines ++ line ∷ [])
  pub played : PlaysEach old lines answers new
  pub unreadable : IsUnreadable line
  pub is_written : Appends written after answers

-- some of the first lines were answered, and no more was written
pub record IsCutShort (old : Client) (read written after : Option (List ℕ)) : Type 0 where
  pub lines : List (List ℕ)
  pub answers : List ℕ
  pub new : Client
  pub begins : BeginsWith read lines
  pub played : PlaysEach old lines answers new
  pub is_written : Appends written after answers

-- the fault ended a line of this number, which P says can't be read, and nothing was written; with a failed device that isn't known
abbrev pub IsLineCutBy : ℕ → Type 0 → Option (List ℕ) → Option (List ℕ) → DaemonFault → Type 0
IsLineCutBy number P written after Usage = ⊥
IsLineCutBy number P written after (BadLine n) = (n ≡ number) × P × (after ≡ written)
IsLineCutBy number P written after Memory = after ≡ written
IsLineCutBy number P written after Device = Unit {0}
IsLineCutBy number P written after (Damaged segment offset) = ⊥
IsLineCutBy number P written after TooLarge = ⊥

-- the fault ended the lines; with a failed device what was written isn't known
abbrev pub EndsByFault : Client → (read left written after : Option (List ℕ)) → DaemonFault → Type 0
EndsByFault old read left written after Usage = ⊥
EndsByFault old read left written after (BadLine n) = EndsAtBadLine old read left written after n
EndsByFault old read left written after Memory = IsCutShort old read written after
EndsByFault old read left written after Device = Unit {0}
EndsByFault old read left written after (Damaged segment offset) = ⊥
EndsByFault old read left written after TooLarge = ⊥

-- All lines of the input were answered by a client that had joined. It then went on once more, and its version and its block were
-- written after the answers.
pub record IsEditedToEnd (read left written after : Option (List ℕ)) : Type 0 where
  pub lines : List (List ℕ)
  pub joined : Client
  pub between : Client
  pub last : Client
  pub answers : List ℕ
  pub block : List ℕ
  pub has_joined : HasJoined joined
  pub taken : TakesLines read left lines
  pub at_end : HasEnded read left
  pub played : PlaysEach joined lines answers between
  pub goes_on : GoesOn between last
  pub is_block : IsOwnBlock last block
  pub is_written : Appends written after (answers ++ version_and_waiting_line last ++ block)

-- the same, but that the block wasn't written
pub record IsUnshown (read left written after : Option (List ℕ)) : Type 0 where
  pub lines : List (List ℕ)
  pub joined : Client
  pub between : Client
  pub last : Client
  pub answers : List ℕ
  pub has_joined : HasJoined joined
  pub taken : TakesLines read left lines
  pub at_end : HasEnded read left
  pub played : PlaysEach joined lines answers between
  pub goes_on : GoesOn between last
  pub is_written : Appends written after (answers ++ version_and_waiting_line last)

-- What a fault leaves: for a bad line what a client wrote that had joined and was cut there; for want of memory nothing, or what it wrote
-- that was cut, maybe before its block; with a failed device what was written isn't known.
abbrev pub IsLeftBy : (read left written after : Option (List ℕ)) → DaemonFault → Type 0
IsLeftBy read left written after Usage = ⊥
IsLeftBy read left written after (BadLine n) = (joined : Client) × HasJoined joined × EndsAtBadLine joined read left written after n
IsLeftBy read left written after Memory = (after ≡ written) ⊎ ((joined : Client) × HasJoined joined × IsCutShort joined read written after) ⊎ IsUnshown read left written after
IsLeftBy read left written after Device = Unit {0}
IsLeftBy read left written after (Damaged segment offset) = ⊥
IsLeftBy read left written after TooLarge = ⊥
