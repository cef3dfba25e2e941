-- What a rally comes to, and what it writes.
use Rattle.std.specs.Prelude.{◌≡◌, ℕ, Bool, true, false, List, [], ◌∷◌, ◌++◌, All, Option, Some, codes, slice_get}
use Rattle.std.specs.Fmt.{decimal}
use Rattle.std.specs.Io.KnownBytes.{Appends}
use Rattle.canvas_model.specs.Client.{Client}
use Rattle.canvas_board.specs.Marks.{Opening}
use Rattle.canvas_model.specs.Local.{EditRequest}
use Rattle.canvas_threads.specs.Shown.{ShowsTheRoom}
use Rattle.rally.specs.Pages.{AsksForPage}

-- The client was asked for a page and so many sets of a property of it; it has made what it didn't refuse, and shows the room.
pub record HasRallied (o : Opening) (sets : ℕ) (client : Client) : Type 0 where
  pub requests : List EditRequest
  pub asked : (c : ℕ) → client.id ≡ Some c → AsksForPage c sets requests
  pub shows : ShowsTheRoom o requests client

-- the client is at the version of this one, shows the same document, and waits for nothing
abbrev pub AgreeWith : Client → Client → Type 0
AgreeWith first client = (client.version ≡ first.version) × (client.waiting ≡ []) × (client.view ≡ first.view)

-- all of these clients agree with the first
abbrev pub AreEqual : List Client → Type 0
AreEqual clients = (first : Client) → slice_get clients 0 ≡ Some first → All (AgreeWith first) clients

-- whether the clients agree, in a word
abbrev pub agreement_word : Bool → List ℕ
agreement_word true = codes "yes"
agreement_word false = codes "no"

-- the line of a rally whose first client is at this version
abbrev pub rally_line : ℕ → Bool → List ℕ
rally_line version equal = codes "rally version " ++ decimal version ++ codes " equal " ++ agreement_word equal ++ 10 ∷ []

-- the line of some version was written
abbrev pub WritesRally : Bool → Option (List ℕ) → Option (List ℕ) → Type 0
WritesRally equal before after = (version : ℕ) × Appends before after (rally_line version equal)
