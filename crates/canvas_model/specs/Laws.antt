-- The laws of the model. Each is the contract of a function of empty body.
use Rattle.std.specs.Prelude.{◌≡◌, ◌≢◌, ℕ, ◌+◌, ◌≤◌, ◌<◌, true, List, [], length, take, Some, IsTrue}
use Rattle.canvas_model.specs.declared.ObjId.{ObjId}
use Rattle.canvas_model.specs.Document.{Doc, live}
use Rattle.canvas_model.specs.Chain.{IsCycle}
use Rattle.canvas_model.specs.Depth.{HasDepth, LiesBelow, StandsWithin, depth_limit}
use Rattle.canvas_model.specs.Change.{Change, Create, Move}
use Rattle.canvas_model.specs.Overlay.{over}
use Rattle.canvas_model.specs.State.{State, opening, IsSound, joined, done}
use Rattle.canvas_model.specs.Log.{Entry, What, Edit, Fits, FitsSome, IsLegal, effect, at_version}
use Rattle.canvas_model.specs.Verdict.{Outcome, Created, Moved}
use Rattle.canvas_model.specs.Client.{Client}
use Rattle.canvas_model.specs.Numbered.{nth}
use Rattle.canvas_model.specs.Local.{EditRequest, Makes, edited}
use Rattle.canvas_model.specs.Messages.{Message, Welcome}
use Rattle.canvas_model.specs.Messages as messages
use Rattle.canvas_model.specs.Receive.{Received, Took, is_own, IsEdit, Receives, after_entry, after_copy}
use Rattle.canvas_model.specs.Standing.{Stands, OwnsWaiting, HasVerdict, MeetsOwn}
use Rattle.canvas_model.specs.World.{Node, World, state, node, Event, Answer, Step, Run, empty}
use Rattle.canvas_model.specs.Good.{HoldsId, unacknowledged, IsTrueOf, IsGood}

-- an entry that may come next by one of the rules keeps a state sound
abbrev pub EachVerdictIsSound : Type 0
EachVerdictIsSound = (s : State) (e : Entry) → IsSound s → FitsSome s e → IsSound (effect s e)

-- an object that an entry puts somewhere, and all below it, stands there no deeper than this
abbrev pub PutsWithin : Doc → What → Outcome → ℕ → Type 0
PutsWithin d (Edit (Create id kind _)) (Created got) limit = (depth : ℕ) → HasDepth d got.parent depth → depth + 1 ≤ limit
PutsWithin d (Edit (Move id _)) (Moved got) limit = (q : ObjId) (n depth : ℕ) → LiesBelow d n q id → HasDepth d got.parent depth → depth + 1 + n ≤ limit
PutsWithin d what outcome limit = Unit {0}

-- where no object stands deeper than this, none does after an entry, by whichever rule, that puts none deeper
abbrev pub EachPutStaysWithin : Type 0
EachPutStaysWithin = (s : State) (e : Entry) (limit : ℕ) → IsSound s → FitsSome s e → StandsWithin s.doc limit → PutsWithin s.doc e.what e.outcome limit → StandsWithin (effect s e).doc limit

-- where no object stands deeper than the limit of depth, none does after an entry that may come next
abbrev pub EachEntryStaysWithin : Type 0
EachEntryStaysWithin = (s : State) (e : Entry) → IsSound s → Fits s e → StandsWithin s.doc depth_limit → StandsWithin (effect s e).doc depth_limit

-- no object of the document at any version of a legal log stands deeper than the limit of depth
abbrev pub EachVersionStandsWithin : Type 0
EachVersionStandsWithin = (log : List Entry) → IsLegal opening log → (v : ℕ) → StandsWithin (at_version log v).doc depth_limit

-- the state at each version of a legal log is sound
abbrev pub EachVersionIsSound : Type 0
EachVersionIsSound = (log : List Entry) → IsLegal opening log → (v : ℕ) → IsSound (at_version log v)

-- at each version of a legal log, no client has more judged edits than there are entries
abbrev pub EachDoneIsWithin : Type 0
EachDoneIsWithin = (log : List Entry) → IsLegal opening log → (v c : ℕ) → done (at_version log v) c ≤ v

-- For every document on which the client stands: when it takes an entry that is a verdict of a sound state with that document,
-- it stands on the document after the entry.
abbrev pub EachEntryStands : Type 0
EachEntryStands = (s : State) (old new : Client) (v : ℕ) (e : Entry) → IsSound s → HasVerdict s e → OwnsWaiting old → MeetsOwn old e
    → Stands old s.doc → Receives old (messages.Entry v e) Took new → Stands new (effect s e).doc

-- For every document on which the client stands: it stands there after an edit of its own.
abbrev pub EachEditStands : Type 0
EachEditStands = (d : Doc) (old : Client) (request : EditRequest) (change : Change) → OwnsWaiting old → Stands old d → Makes old request change
    → OwnsWaiting (edited old change) × Stands (edited old change) d

-- the document has no object of this client
abbrev pub HasNoneOf : ℕ → Doc → Type 0
HasNoneOf c d = (q : ObjId) → live d q ≡ true → q.client ≢ c

-- For every document on which the client stands and in which the new id has no object: it stands there with that id.
abbrev pub EachWelcomeStands : Type 0
EachWelcomeStands = (d : Doc) (old new : Client) (c : ℕ) → Stands old d → HasNoneOf c d → Receives old (Welcome c) Took new → Stands new d

-- when a client takes a copy, its view is the copy with the edits that stay laid over it
abbrev pub EachCopyShows : Type 0
EachCopyShows = (d : Doc) (old new : Client) (v n : ℕ) → Receives old (messages.Copy v n d) Took new → new.view ≡ over d new.waiting

-- whatever reaches a client with an id, the objects that its waiting edits create stay its own
abbrev pub EachMessageLeavesOwn : Type 0
EachMessageLeavesOwn = (old new : Client) (c : ℕ) (message : Message) (answer : Received) → old.id ≡ Some c → OwnsWaiting old → Receives old message answer new → OwnsWaiting new

-- P holds of every good world
abbrev pub InEachGoodWorld : (World → Type 0) → Type 0
InEachGoodWorld P = (w : World) → IsGood w → P w

-- P holds after each of the 13 events, from every good world
abbrev pub AfterEachStep : (World → Type 0) → Type 0
AfterEachStep P = (old : World) (event : Event) (answer : Answer) (new : World) → IsGood old → Step old event answer new → P new

-- no event takes or changes a synced entry
abbrev pub EachStepKeepsSynced : Type 0
EachStepKeepsSynced = (old : World) (event : Event) (answer : Answer) (new : World) → IsGood old → Step old event answer new
    → take old.synced new.log ≡ take old.synced old.log

-- nor a published one, and what is published stays so
abbrev pub EachStepKeepsPublished : Type 0
EachStepKeepsPublished = (old : World) (event : Event) (answer : Answer) (new : World) → IsGood old → Step old event answer new
    → (take old.published new.log ≡ take old.published old.log) × (old.published ≤ new.published)

-- P holds after every list of events
abbrev pub AfterEachRun : (World → Type 0) → Type 0
AfterEachRun P = (events : List Event) (w : World) → Run empty events w → P w

-- the entry that comes next at a node, where it creates the object of a waiting edit, is the node's own next edit
abbrev pub NodesMeetOwn : World → Type 0
NodesMeetOwn w = (k c : ℕ) (n : Node) → HoldsId w.nodes k c n → (e : Entry) → nth w.log (n.client.version + 1) ≡ Some e → MeetsOwn n.client e

-- each node with an id stands on the server's document at its version, and the objects that its waiting edits create are its own
abbrev pub NodesStand : World → Type 0
NodesStand w = (k c : ℕ) (n : Node) → HoldsId w.nodes k c n → OwnsWaiting n.client × Stands n.client (at_version w.log n.client.version).doc

-- and after a copy of any other version it would stand on the document there
abbrev pub NodesStandOnCopies : World → Type 0
NodesStandOnCopies w = (k c : ℕ) (n : Node) → HoldsId w.nodes k c n → (v : ℕ) → n.client.version ≤ v → v ≤ length w.log
    → Stands (after_copy n.client v (done (at_version w.log v) c) (at_version w.log v).doc) (at_version w.log v).doc

-- the next entry, taken field by field from the view, leads to the document after it, with what stays unacknowledged laid over it
abbrev pub NodesFollow : World → Type 0
NodesFollow w = (k c : ℕ) (n : Node) → HoldsId w.nodes k c n → (e : Entry) → nth w.log (n.client.version + 1) ≡ Some e
    → (after_entry (is_own c e) n.client (n.client.version + 1) e).view ≡ over (at_version w.log (n.client.version + 1)).doc (after_entry (is_own c e) n.client (n.client.version + 1) e).waiting

-- the next true entry, and each true copy of a later version, is taken
abbrev pub NodesTakeTruth : World → Type 0
NodesTakeTruth w = (k c : ℕ) (n : Node) → HoldsId w.nodes k c n
    → ((e : Entry) → IsTrueOf w k (messages.Entry (n.client.version + 1) e) → Receives n.client (messages.Entry (n.client.version + 1) e) Took (after_entry (is_own c e) n.client (n.client.version + 1) e))
    × ((v d : ℕ) (copy : Doc) → IsTrueOf w k (messages.Copy v d copy) → n.client.version < v → Receives n.client (messages.Copy v d copy) Took (after_copy n.client v d copy))

-- each entry of the log is a verdict of some sound state
abbrev pub EntriesAreVerdicts : World → Type 0
EntriesAreVerdicts w = (v : ℕ) (e : Entry) → nth w.log v ≡ Some e → (s : State) × IsSound s × HasVerdict s e

-- each id that a node holds has joined
abbrev pub HoldersJoined : World → Type 0
HoldersJoined w = (k c : ℕ) (n : Node) → HoldsId w.nodes k c n → IsTrue (joined (state w) c)

-- two nodes at one version with nothing unacknowledged show equal documents
abbrev pub NodesAgree : World → Type 0
NodesAgree w = (k j : ℕ) (n m : Node) → node w k ≡ Some n → node w j ≡ Some m → n.client.version ≡ m.client.version → unacknowledged n ≡ [] → unacknowledged m ≡ [] → n.client.view ≡ m.client.view

-- the server's parents form no cycle
abbrev pub HasNoCycle : World → Type 0
HasNoCycle w = (q : ObjId) → IsCycle (state w).doc q → ⊥

-- The i-th edit of the node is in the published log under the node's id, among the entries that the node has reached, and no other
-- entry has that author and number.
pub record IsLoggedOnce (w : World) (n : Node) (i : ℕ) : Type 0 where
  pub id : ℕ
  pub holds : n.client.id ≡ Some id
  pub change : Change
  pub edit : nth n.edits i ≡ Some change
  pub version : ℕ
  pub published : version ≤ w.published
  pub reached : version ≤ n.client.version
  pub entry : Entry
  pub logged : nth w.log version ≡ Some entry
  pub author : entry.author ≡ id
  pub number : entry.seq ≡ i
  pub what : entry.what ≡ Edit change
  pub once : (v : ℕ) (e : Entry) → nth w.log v ≡ Some e → e.author ≡ id → e.seq ≡ i → v ≡ version

-- each acknowledged edit is in the log exactly once, in the published part
abbrev pub KeepsAcknowledged : World → Type 0
KeepsAcknowledged w = (k i : ℕ) (n : Node) → node w k ≡ Some n → 0 < i → i ≤ n.client.acknowledged → IsLoggedOnce w n i
