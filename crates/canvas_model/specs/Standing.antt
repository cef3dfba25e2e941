-- On which documents a client stands, and which entries it may take there.
use Rattle.std.specs.Prelude.{◌≡◌, ℕ, ◌≤◌, true, false, List, [], ◌∷◌, Some}
use Rattle.std.specs.List.{list_any}
use Rattle.canvas_model.specs.declared.ObjId.{ObjId}
use Rattle.canvas_model.specs.declared.Kind.{Kind}
use Rattle.canvas_model.specs.Document.{Doc, Place, live}
use Rattle.canvas_model.specs.Change.{Change, Create}
use Rattle.canvas_model.specs.Overlay.{over}
use Rattle.canvas_model.specs.State.{State, next}
use Rattle.canvas_model.specs.Log.{What, Join, Edit, Entry}
use Rattle.canvas_model.specs.Verdict.{Joined, Created, Verdict}
use Rattle.canvas_model.specs.View.{creates_it, is_about}
use Rattle.canvas_model.specs.Client.{Client}
use Rattle.canvas_model.specs.Receive.{IsNextEdit}

-- the client stands on the document
pub record Stands (client : Client) (d : Doc) : Type 0 where
  -- its view is the document with the waiting edits laid over it
  pub shown : client.view ≡ over d client.waiting
  -- what a waiting edit creates isn't there
  pub fresh : (q : ObjId) → list_any (creates_it q) client.waiting ≡ true → live d q ≡ false
  -- no object of the client has a counter above its last
  pub counters : (c : ℕ) (q : ObjId) → client.id ≡ Some c → live d q ≡ true → q.client ≡ c → q.counter ≤ client.counter

-- these edits create no object twice, each with the id c and a counter that was given
abbrev pub AreOwn : ℕ → ℕ → List Change → Type 0
AreOwn c counter [] = Unit {0}
AreOwn c counter (Create id kind place ∷ changes) = (id.client ≡ c) × (id.counter ≤ counter) × (list_any (creates_it id) changes ≡ false) × AreOwn c counter changes
AreOwn c counter (change ∷ changes) = AreOwn c counter changes

-- the objects that the client's waiting edits create are its own
abbrev pub OwnsWaiting : Client → Type 0
OwnsWaiting client = (c : ℕ) → client.id ≡ Some c → AreOwn c client.counter client.waiting

-- the entry, which was asked as this, has an outcome that this state allows; its number may be any
abbrev pub IsGrantedAs : State → Entry → What → Type 0
IsGrantedAs s e Join = e.outcome ≡ Joined (next s)
IsGrantedAs s e (Edit change) = Verdict s e.author change e.outcome

-- the entry's outcome is a verdict of this state
abbrev pub HasVerdict : State → Entry → Type 0
HasVerdict s e = IsGrantedAs s e e.what

-- an entry that creates the object of a waiting edit is the client's own next one
abbrev pub MeetsOwn : Client → Entry → Type 0
MeetsOwn client e = (id : ObjId) (kind : Kind) (ask got : Place) → e.what ≡ Edit (Create id kind ask) → e.outcome ≡ Created got
    → list_any (is_about id) client.waiting ≡ true → (client.id ≡ Some e.author) × IsNextEdit client e
