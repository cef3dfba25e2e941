-- What playing a script prints, and the world that it leads to.
use Rattle.std.specs.Prelude.{◌≡◌, ℕ, List, [], ◌∷◌, ◌++◌}
use Rattle.canvas_model.specs.World.{World, Event, AddNode, Answer, Step}
use Rattle.canvas_script.specs.Script.{Item, Enters, Happens, ShowsServer, ShowsNode}
use Rattle.canvas_script.specs.Answers.{answer_line}
use Rattle.canvas_script.specs.Report.{IsServerBlock, IsNodeBlock}

-- the event happens, and its answer's line is printed
abbrev pub PrintsAnswer : World → Event → List ℕ → World → Type 0
PrintsAnswer w event text u = (answer : Answer) × Step w event answer u × (text ≡ answer_line answer)

-- a node is added, and nothing is printed
abbrev pub AddsNode : World → List ℕ → World → Type 0
AddsNode w text u = (answer : Answer) × Step w AddNode answer u × (text ≡ [])

-- what one item prints, and the world after it: to show a block changes nothing
abbrev pub Plays : List (List ℕ) → World → Item → List ℕ → World → Type 0
Plays names w Enters text u = AddsNode w text u
Plays names w (Happens event) text u = PrintsAnswer w event text u
Plays names w ShowsServer text u = IsServerBlock w text × (u ≡ w)
Plays names w (ShowsNode k) text u = IsNodeBlock names w k text × (u ≡ w)

-- from this world on these items, one after another, print this text and lead to that world; the nodes have these names
pub data Prints : List (List ℕ) → World → List Item → List ℕ → World → Type 0 where
  no_more : {names : List (List ℕ)} {w : World} → Prints names w [] [] w
  and_then : {names : List (List ℕ)} {w u v : World} {item : Item} {items : List Item} (line text : List ℕ)
      → Plays names w item line u
      → Prints names u items text v
      → Prints names w (item ∷ items) (line ++ text) v

-- the events of the items: a node that enters is added
abbrev pub events_of : List Item → List Event
events_of [] = []
events_of (Enters ∷ items) = AddNode ∷ events_of items
events_of (Happens event ∷ items) = event ∷ events_of items
events_of (ShowsServer ∷ items) = events_of items
events_of (ShowsNode k ∷ items) = events_of items

-- the event happens, and the text got its answer's line
abbrev pub AddsAnswer : World → Event → List ℕ → World → List ℕ → Type 0
AddsAnswer w event before u after = (text : List ℕ) × PrintsAnswer w event text u × (after ≡ before ++ text)

-- the text got what one item prints
abbrev pub AddsItem : List (List ℕ) → World → Item → List ℕ → World → List ℕ → Type 0
AddsItem names w item before u after = (text : List ℕ) × Plays names w item text u × (after ≡ before ++ text)

-- the text got what the items print
abbrev pub AddsItems : List (List ℕ) → World → List Item → List ℕ → World → List ℕ → Type 0
AddsItems names w items before u after = (text : List ℕ) × Prints names w items text u × (after ≡ before ++ text)
