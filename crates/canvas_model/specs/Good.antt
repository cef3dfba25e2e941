-- What is claimed of every world that events lead to, and the good world, which has what else must be known to prove it.
use Rattle.std.specs.Prelude.{◌≡◌, ◌⊎◌, ◌++◌, ℕ, ◌≤◌, ◌<◌, Bool, true, List, [], ◌∷◌, length, take, drop, Option, Some, None}
use Rattle.canvas_model.specs.declared.ObjId.{ObjId}
use Rattle.canvas_model.specs.declared.Kind.{Kind}
use Rattle.canvas_model.specs.Ids.{root}
use Rattle.canvas_model.specs.Document.{Place}
use Rattle.canvas_model.specs.Change.{Change, Create, object_of}
use Rattle.canvas_model.specs.Overlay.{over}
use Rattle.canvas_model.specs.State.{State, opening, done, used, IsSound}
use Rattle.canvas_model.specs.Log.{What, Edit, Entry, IsLegal, at_version}
use Rattle.canvas_model.specs.Verdict.{Joined}
use Rattle.canvas_model.specs.Numbered.{nth}
use Rattle.canvas_model.specs.Messages.{Message, Welcome, Idle, No}
use Rattle.canvas_model.specs.Messages as messages
use Rattle.canvas_model.specs.Receive.{is_own, IsEdit}
use Rattle.canvas_model.specs.World.{Letter, Node, World, state, node}

-- node k is n, and holds the id c
pub record HoldsId (nodes : List Node) (k c : ℕ) (n : Node) : Type 0 where
  pub is : nth nodes k ≡ Some n
  pub id : n.client.id ≡ Some c

-- a node's edits after the acknowledged ones
abbrev pub unacknowledged : Node → List Change
unacknowledged n = drop n.client.acknowledged n.edits

-- entry v gave the id c to node k, which had asked for one
pub record Gave (log : List Entry) (askers : List ℕ) (v k c : ℕ) : Type 0 where
  pub entry : Entry
  pub stands : nth log v ≡ Some entry
  pub joins : entry.outcome ≡ Joined c
  pub asker : nth askers v ≡ Some k

-- a published entry gave the id c to node k
abbrev pub WasGiven : List Entry → List ℕ → ℕ → ℕ → ℕ → Type 0
WasGiven log askers published k c = (v : ℕ) × (v ≤ published) × Gave log askers v k c

-- the message to this node is true
abbrev pub IsTrueOf : World → ℕ → Message → Type 0
IsTrueOf w to messages.Join = Unit {0}
IsTrueOf w to (Welcome c) = WasGiven w.log w.askers w.published to c
IsTrueOf w to (messages.Edit c n change) = (k : ℕ) × (holder : Node) × HoldsId w.nodes k c holder × (nth holder.edits n ≡ Some change)
IsTrueOf w to (messages.Ask c v) = Unit {0}
IsTrueOf w to (messages.Entry v e) = (v ≤ w.published) × (nth w.log v ≡ Some e)
IsTrueOf w to (messages.Copy v n d) = (c : ℕ) × (holder : Node) × HoldsId w.nodes to c holder × (v ≤ w.published) × (d ≡ (at_version w.log v).doc) × (n ≡ done (at_version w.log v) c)
IsTrueOf w to Idle = Unit {0}
IsTrueOf w to (No reason) = Unit {0}

-- the log is legal, and its state sound
abbrev pub HasLegalLog : World → Type 0
HasLegalLog w = IsLegal opening w.log × IsSound (state w)

-- every message ever sent is true
abbrev pub TellsTruth : World → Type 0
TellsTruth w = (m : ℕ) (letter : Letter) → nth w.letters m ≡ Some letter → IsTrueOf w letter.to letter.message

-- no two nodes hold one id
abbrev pub SharesNoId : World → Type 0
SharesNoId w = (k j c : ℕ) (n m : Node) → HoldsId w.nodes k c n → HoldsId w.nodes j c m → k ≡ j

-- the change is put before the rest, if the entry is the client's and no Join
abbrev pub with_edit : Bool → What → List Change → List Change
with_edit true (Edit change) rest = change ∷ rest
with_edit own what rest = rest

-- the edits of client c in the log, in order
abbrev pub edits_by : ℕ → List Entry → List Change
edits_by c [] = []
edits_by c (e ∷ log) = with_edit (is_own c e) e.what (edits_by c log)

-- the edits that entries of this id carry; without an id there are none
abbrev pub edits_in : List Entry → Option ℕ → List Change
edits_in log None = []
edits_in log (Some c) = edits_by c log

-- a node's edits are those in the log, in order, each once, and then others
abbrev pub LogsEdits : World → Type 0
LogsEdits w = (k : ℕ) (n : Node) → node w k ≡ Some n → (rest : List Change) × (n.edits ≡ edits_in w.log n.client.id ++ rest)

-- the author of each edit in the log is the id that some node holds
abbrev pub HasNoStranger : World → Type 0
HasNoStranger w = (v : ℕ) (e : Entry) (change : Change) → nth w.log v ≡ Some e → e.what ≡ Edit change → (k : ℕ) × (n : Node) × HoldsId w.nodes k e.author n

-- a node's acknowledged number is how many of its edits are among the entries that it has reached
abbrev pub CountsAcknowledged : World → Type 0
CountsAcknowledged w = (k : ℕ) (n : Node) → node w k ≡ Some n → n.client.acknowledged ≡ length (edits_in (take n.client.version w.log) n.client.id)

-- a node shows the server's document at its version, which is published, with its unacknowledged edits laid over it
pub record ShowsOverlay (w : World) (n : Node) : Type 0 where
  pub view : n.client.view ≡ over (at_version w.log n.client.version).doc (unacknowledged n)
  pub reached : n.client.version ≤ w.published

-- every node does
abbrev pub ShowsOverlays : World → Type 0
ShowsOverlays w = (k : ℕ) (n : Node) → node w k ≡ Some n → ShowsOverlay w n

-- the change creates this object
abbrev pub IsCreation : Option Change → ObjId → Type 0
IsCreation change id = (kind : Kind) × (place : Place) × (change ≡ Some (Create id kind place))

-- the object is the root, or has a counter that was used by this state, or is created by one of these edits up to the i-th
abbrev pub IsKnown : State → List Change → ℕ → ObjId → Type 0
IsKnown s edits i id = (id ≡ root) ⊎ (id.counter ≤ used s id.client) ⊎ ((j : ℕ) × (j ≤ i) × IsCreation (nth edits j) id)

-- the object of each unacknowledged edit is known at the node's version
abbrev pub KnowsObjects : List Entry → Node → Type 0
KnowsObjects log n = (i : ℕ) (change : Change) → n.client.acknowledged < i → nth n.edits i ≡ Some change → IsKnown (at_version log n.client.version) n.edits i (object_of change)

-- the counters of what the node creates rise
abbrev pub CountersRise : Node → Type 0
CountersRise n = (i j : ℕ) (id other : ObjId) → i < j → IsCreation (nth n.edits i) id → IsCreation (nth n.edits j) other → id.counter < other.counter

-- every node knows the objects of its unacknowledged edits, and its counters rise
abbrev pub TracksObjects : World → Type 0
TracksObjects w = (k : ℕ) (n : Node) → node w k ≡ Some n → KnowsObjects w.log n × CountersRise n

-- a node's waiting edits are its edits after the acknowledged ones
abbrev pub WaitsForRest : World → Type 0
WaitsForRest w = (k : ℕ) (n : Node) → node w k ≡ Some n → n.client.waiting ≡ unacknowledged n

-- floor, published, synced and length don't fall below one another
pub record InOrder (floor published synced length : ℕ) : Type 0 where
  pub told : floor ≤ published
  pub shown : published ≤ synced
  pub kept : synced ≤ length

-- the server's bounds are in order
abbrev pub HasBoundsInOrder : World → Type 0
HasBoundsInOrder w = InOrder w.floor w.published w.synced (length w.log)

-- all that is claimed of a world
pub record HasClaims (w : World) : Type 0 where
  pub legal : HasLegalLog w
  pub truth : TellsTruth w
  pub ids : SharesNoId w
  pub entries : LogsEdits w
  pub authors : HasNoStranger w
  pub acknowledged : CountsAcknowledged w
  pub views : ShowsOverlays w
  pub objects : TracksObjects w
  pub waiting : WaitsForRest w
  pub bounds : HasBoundsInOrder w

-- what holds of a node with the id c
pub record IsMember (log : List Entry) (askers : List ℕ) (published k c : ℕ) (n : Node) : Type 0 where
  -- it was given its id, by a published entry
  pub given : WasGiven log askers published k c
  -- as many of its edits are acknowledged as were judged by its version
  pub acknowledged : n.client.acknowledged ≡ done (at_version log n.client.version) c
  -- each of its entries in the log carries its edit of that number
  pub judged : (v : ℕ) (e : Entry) → nth log v ≡ Some e → e.author ≡ c → IsEdit e.what (nth n.edits e.seq)
  pub known : KnowsObjects log n
  -- what it creates carries its id, and a counter from 1 to its last
  pub own : (i : ℕ) (id : ObjId) → IsCreation (nth n.edits i) id → (id.client ≡ c) × (0 < id.counter) × (id.counter ≤ n.client.counter)
  pub rising : CountersRise n

-- a node without an id has done nothing
pub record IsOutside (n : Node) : Type 0 where
  pub version : n.client.version ≡ 0
  pub acknowledged : n.client.acknowledged ≡ 0
  pub edits : n.edits ≡ []

-- a node that has done nothing, or holds its id
abbrev pub IsNodeOf : List Entry → List ℕ → ℕ → ℕ → Option ℕ → Node → Type 0
IsNodeOf log askers published k None n = IsOutside n
IsNodeOf log askers published k (Some c) n = IsMember log askers published k c n

-- what holds of node k
pub record IsGoodNode (log : List Entry) (askers : List ℕ) (published k : ℕ) (n : Node) : Type 0 where
  pub view : n.client.view ≡ over (at_version log n.client.version).doc (unacknowledged n)
  pub waiting : n.client.waiting ≡ unacknowledged n
  pub reached : n.client.version ≤ published
  pub member : IsNodeOf log askers published k n.client.id n

-- the good world: every event keeps it good
pub record IsGood (w : World) : Type 0 where
  pub bounds : HasBoundsInOrder w
  pub askers : length w.askers ≡ length w.log
  pub legal : IsLegal opening w.log
  pub sound : IsSound (state w)
  pub nodes : (k : ℕ) (n : Node) → node w k ≡ Some n → IsGoodNode w.log w.askers w.published k n
  pub letters : TellsTruth w
  pub owned : HasNoStranger w
