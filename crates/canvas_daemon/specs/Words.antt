-- The words that the program is called with.
use Rattle.std.specs.Prelude.{◌≡◌, ℕ, ◌≤◌, List, [], ◌∷◌, codes}
use Rattle.std.specs.Fmt.{decimal}
use Rattle.canvas_daemon.specs.declared.args.DaemonCommand as declared
use Rattle.canvas_daemon.specs.declared.args.DaemonCommand.TheVariants as command

-- what is asked for
pub data AskedOfDaemon : Type 0 where
  -- a server of this folder at this port, for so many connections
  AsksServe : List ℕ → ℕ → ℕ → AskedOfDaemon
  -- a client of the server at this port
  AsksEdit : ℕ → AskedOfDaemon
  -- the document in this folder
  AsksShow : List ℕ → AskedOfDaemon
  -- a server of this folder with two clients
  AsksTrial : List ℕ → AskedOfDaemon

-- what contracts see of a command
abbrev pub seen_command : declared.DaemonCommand → AskedOfDaemon
seen_command (command.Serve dir port connections) = AsksServe dir.now port connections
seen_command (command.Edit port) = AsksEdit port
seen_command (command.Show dir) = AsksShow dir.now
seen_command (command.Trial dir) = AsksTrial dir.now

-- a port is 1 to 65535
abbrev pub IsPort : ℕ → Type 0
IsPort port = (1 ≤ port) × (port ≤ 65535)

-- the word is this port, in decimal digits without leading zeros
abbrev pub SpellsPort : List ℕ → ℕ → Type 0
SpellsPort word port = IsPort port × (word ≡ decimal port)

-- a server serves 1 to 64 connections
abbrev pub IsConnectionCount : ℕ → Type 0
IsConnectionCount count = (1 ≤ count) × (count ≤ 64)

-- the word is this number of connections, in decimal digits without leading zeros
abbrev pub SpellsConnections : List ℕ → ℕ → Type 0
SpellsConnections word count = IsConnectionCount count × (word ≡ decimal count)

-- the words ask for this
abbrev pub AskFor : List (List ℕ) → AskedOfDaemon → Type 0
AskFor words (AsksServe dir port count) = IsPort port × IsConnectionCount count × (words ≡ codes "serve" ∷ dir ∷ decimal port ∷ decimal count ∷ [])
AskFor words (AsksEdit port) = IsPort port × (words ≡ codes "edit" ∷ decimal port ∷ [])
AskFor words (AsksShow dir) = words ≡ codes "show" ∷ dir ∷ []
AskFor words (AsksTrial dir) = words ≡ codes "trial" ∷ dir ∷ []
