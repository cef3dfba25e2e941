-- All nodes, the server and every message ever sent, and what one event does to them.
use Rattle.std.specs.Prelude.{◌≡◌, ◌⊎◌, ◌&&◌, ◌||◌, ◌==◌, ℕ, zero, suc, ◌+◌, Bool, not, cond, List, [], ◌∷◌, ◌++◌, length, take, Option, Some, None, is_some, nat_lt, nat_le, slice_set}
use Rattle.canvas_model.specs.Change.{Change}
use Rattle.canvas_model.specs.State.{State, opening, joined, done, next}
use Rattle.canvas_model.specs.Log.{What, Join, Edit, Entry, Fits, fold, last_version}
use Rattle.canvas_model.specs.Verdict.{Outcome, Joined}
use Rattle.canvas_model.specs.Client.{Client, new_client, last_number, Yields}
use Rattle.canvas_model.specs.Numbered.{nth}
use Rattle.canvas_model.specs.Local.{EditRequest, EditError, Refuses, Makes, edited}
use Rattle.canvas_model.specs.Messages.{Message, Welcome}
use Rattle.canvas_model.specs.Messages as messages
use Rattle.canvas_model.specs.Receive.{Received, Receives}

-- a message that was sent, by whom and to whom: 0 is the server
pub record Letter : Type 0 where
  pub from : ℕ
  pub to : ℕ
  pub message : Message

-- a client, and all edits that it ever made
pub record Node : Type 0 where
  pub client : Client
  pub edits : List Change

-- the server's log, and for each entry the node that asked for it, if it is a Join, else 0; how many of the entries
-- were passed by the last checkpoint, are published and are synced; every message ever sent; the nodes
pub record World : Type 0 where
  pub log : List Entry
  pub askers : List ℕ
  pub floor : ℕ
  pub published : ℕ
  pub synced : ℕ
  pub letters : List Letter
  pub nodes : List Node

-- a new client, which has made no edit
abbrev pub new_node : Node
new_node = record { client = new_client; edits = [] }

-- nothing has happened
abbrev pub empty : World
empty = record { log = []; askers = []; floor = 0; published = 0; synced = 0; letters = []; nodes = [] }

-- the server's state
abbrev pub state : World → State
state w = fold opening w.log

-- node k, counted from 1
abbrev pub node : World → ℕ → Option Node
node w k = nth w.nodes k

-- what can happen; nodes, messages and entries are counted from 1
pub data Event : Type 0 where
  AddNode : Event
  -- node k asks for an id
  AskJoin : ℕ → Event
  -- node k makes an edit
  MakeEdit : ℕ → EditRequest → Event
  -- node k sends the i-th of its waiting edits
  Send : ℕ → ℕ → Event
  -- the server takes message m
  Take : ℕ → Event
  Sync : Event
  Publish : Event
  -- the id that entry v gave is sent to the node that asked for it
  SendWelcome : ℕ → Event
  -- entry v is told to node k
  Tell : ℕ → ℕ → Event
  -- a copy of the document is sent to node k
  Copy : ℕ → Event
  -- message m reaches its node
  Deliver : ℕ → Event
  Checkpoint : Event
  -- the server starts again, with the first n entries
  Restart : ℕ → Event

-- what an event answers
pub data Answer : Type 0 where
  Nothing : Answer
  NodeIs : ℕ → Answer
  MessageIs : ℕ → Answer
  EditIs : ℕ → Answer
  RefusedEdit : EditError → Answer
  Judged : ℕ → Answer
  Repeat : Answer
  Gap : Answer
  Stranger : Answer
  FullServer : Answer
  SyncedIs : ℕ → Answer
  PublishedIs : ℕ → Answer
  Delivered : Received → Answer
  FloorIs : ℕ → Answer
  VersionIs : ℕ → Answer

-- the world with one message more
abbrev pub posted : World → Letter → World
posted w letter = record w { letters = w.letters ++ letter ∷ [] }

-- the message is sent, and the answer is its number
abbrev pub Posts : World → Letter → Answer → World → Type 0
Posts old letter answer new = Yields (MessageIs (length old.letters + 1)) (posted old letter) answer new

-- node k is now this one
abbrev pub put_node : World → ℕ → Node → World
put_node w zero n = w
put_node w (suc i) n = record w { nodes = slice_set w.nodes i n }

-- an event that needs what isn't there can't happen
abbrev pub At : {X : Type 0} → Option X → World → Answer → World → (X → Type 0) → Type 0
At None old answer new P = Yields Nothing old answer new
At (Some x) old answer new P = P x

-- an event whose condition doesn't hold can't happen
abbrev pub If : Bool → World → Answer → World → Type 0 → Type 0
If b old answer new P = cond b P (Yields Nothing old answer new)

-- node k makes an edit, or refuses it
abbrev pub Edits : World → ℕ → Node → EditRequest → Answer → World → Type 0
Edits old k n request answer new =
    ((error : EditError) × Refuses n.client request error × Yields (RefusedEdit error) old answer new)
    ⊎ ((change : Change) × Makes n.client request change
    × Yields (EditIs (last_number n.client + 1)) (put_node old k (record { client = edited n.client change; edits = n.edits ++ change ∷ [] })) answer new)

-- the world with one entry more
abbrev pub appended : World → Entry → ℕ → World
appended w e asker = record w { log = w.log ++ e ∷ []; askers = w.askers ++ asker ∷ [] }

-- one entry more, which fits the server's state: any will do
pub record Appends (old : World) (author seq : ℕ) (what : What) (asker : ℕ) (answer : Answer) (new : World) : Type 0 where
  pub entry : Entry
  pub author_is : entry.author ≡ author
  pub seq_is : entry.seq ≡ seq
  pub what_is : entry.what ≡ what
  pub fits : Fits (state old) entry
  pub yields : Yields (Judged (length old.log + 1)) (appended old entry asker) answer new

-- no version is left for an entry, or no id for a Join
abbrev pub is_full : World → What → Bool
is_full w Join = (length w.log == last_version) || (next (state w) == 4294967295)
is_full w (Edit change) = length w.log == last_version

-- the server takes a message of this node: only an edit that is its author's next is judged
abbrev pub Takes : World → ℕ → Message → Answer → World → Type 0
Takes old from messages.Join answer new = cond (is_full old Join) (Yields FullServer old answer new) (Appends old 0 0 Join from answer new)
Takes old from (messages.Edit c n change) answer new =
    cond (not (joined (state old) c)) (Yields Stranger old answer new)
    (cond (nat_le n (done (state old) c)) (Yields Repeat old answer new)
    (cond (nat_lt (done (state old) c + 1) n) (Yields Gap old answer new)
    (cond (is_full old (Edit change)) (Yields FullServer old answer new)
    (Appends old c n (Edit change) 0 answer new))))
Takes old from _ answer new = Yields Nothing old answer new

-- the id that this outcome gave, if any
abbrev pub joined_as : Outcome → Option ℕ
joined_as (Joined c) = Some c
joined_as _ = None

-- a message reaches node k
abbrev pub Delivers : World → ℕ → Node → Message → Answer → World → Type 0
Delivers old k n message answer new =
    (received : Received) × (client : Client) × Receives n.client message received client × Yields (Delivered received) (put_node old k (record { client = client; edits = n.edits })) answer new

-- the server with the first n entries; messages and nodes stay
abbrev pub restarted : World → ℕ → World
restarted w n = record w { log = take n w.log; askers = take n w.askers; floor = n; published = n; synced = n }

-- what an event answers, and the world after it
abbrev pub Step : World → Event → Answer → World → Type 0
Step old AddNode answer new = Yields (NodeIs (length old.nodes + 1)) (record old { nodes = old.nodes ++ new_node ∷ [] }) answer new
Step old (AskJoin k) answer new =
    At (node old k) old answer new (λ n. If (not (is_some n.client.id)) old answer new (Posts old (record { from = k; to = 0; message = messages.Join }) answer new))
Step old (MakeEdit k request) answer new = At (node old k) old answer new (λ n. Edits old k n request answer new)
Step old (Send k i) answer new =
    At (node old k) old answer new (λ n. At n.client.id old answer new (λ c. At (nth n.client.waiting i) old answer new (λ change.
    Posts old (record { from = k; to = 0; message = messages.Edit c (n.client.acknowledged + i) change }) answer new)))
Step old (Take m) answer new =
    At (nth old.letters m) old answer new (λ letter. If (letter.to == 0) old answer new (Takes old letter.from letter.message answer new))
Step old Sync answer new = Yields (SyncedIs (length old.log)) (record old { synced = length old.log }) answer new
Step old Publish answer new = Yields (PublishedIs old.synced) (record old { published = old.synced }) answer new
Step old (SendWelcome v) answer new =
    If (nat_le v old.published) old answer new (At (nth old.log v) old answer new (λ e. At (joined_as e.outcome) old answer new (λ c. At (nth old.askers v) old answer new (λ k.
    Posts old (record { from = 0; to = k; message = Welcome c }) answer new))))
Step old (Tell v k) answer new =
    At (node old k) old answer new (λ n. If (nat_lt old.floor v && nat_le v old.published) old answer new (At (nth old.log v) old answer new (λ e.
    Posts old (record { from = 0; to = k; message = messages.Entry v e }) answer new)))
Step old (Copy k) answer new =
    At (node old k) old answer new (λ n. At n.client.id old answer new (λ c. If (old.published == length old.log) old answer new (
    Posts old (record { from = 0; to = k; message = messages.Copy (length old.log) (done (state old) c) (state old).doc }) answer new)))
Step old (Deliver m) answer new =
    At (nth old.letters m) old answer new (λ letter. At (node old letter.to) old answer new (λ n. Delivers old letter.to n letter.message answer new))
Step old Checkpoint answer new = If (old.published == length old.log) old answer new (Yields (FloorIs (length old.log)) (record old { floor = length old.log }) answer new)
Step old (Restart n) answer new = If (nat_le old.synced n && nat_le n (length old.log)) old answer new (Yields (VersionIs n) (restarted old n) answer new)

-- these events, one after another, lead from one world to the other
pub data Run : World → List Event → World → Type 0 where
  nothing : {w : World} → Run w [] w
  and_then : {w u v : World} {event : Event} {events : List Event} (answer : Answer) → Step w event answer u → Run u events v → Run w (event ∷ events) v
