-- What the lines of a script ask for, of numbered nodes.
use Rattle.std.specs.Prelude.{◌≡◌, ℕ, List, [], ◌∷◌, ◌++◌, if◌then◌else◌}
use Rattle.canvas_model.specs.World as world
use Rattle.canvas_script.specs.declared.said.Whole.{Whole}
use Rattle.canvas_script.specs.declared.said.Whole.TheVariants.{Sync, Publish, Checkpoint, ShowServer}
use Rattle.canvas_script.specs.declared.said.Counted.{Counted}
use Rattle.canvas_script.specs.declared.said.Counted.TheVariants.{Take, Welcome, Deliver, Restart}
use Rattle.canvas_script.specs.declared.said.Named.{Named}
use Rattle.canvas_script.specs.declared.said.Named.TheVariants.{Join, Copy, Show}
use Rattle.canvas_script.specs.Names.{is_used, names_after_use, IsNodeName, IsNumber}
use Rattle.canvas_script.specs.Lines.{Said, SaysWhole, SaysCounted, SaysNamed, SaysEdit, SaysSend, SaysTell, SpellsLine}
use Rattle.canvas_script.specs.Script.{Item, Enters, Happens, ShowsServer, ShowsNode}

-- what a line asks for that names nothing
abbrev pub asked_whole : Whole → Item
asked_whole Sync = Happens world.Sync
asked_whole Publish = Happens world.Publish
asked_whole Checkpoint = Happens world.Checkpoint
asked_whole ShowServer = ShowsServer

-- what is asked for with a number
abbrev pub asked_counted : Counted → ℕ → Item
asked_counted Take m = Happens (world.Take m)
asked_counted Welcome v = Happens (world.SendWelcome v)
asked_counted Deliver m = Happens (world.Deliver m)
asked_counted Restart v = Happens (world.Restart v)

-- what is asked for of node k
abbrev pub asked_named : Named → ℕ → Item
asked_named Join k = Happens (world.AskJoin k)
asked_named Copy k = Happens (world.Copy k)
asked_named Show k = ShowsNode k

-- at the first use of a name its node enters
abbrev pub entering : List (List ℕ) → List ℕ → List Item
entering names name = if is_used names name then [] else Enters ∷ []

-- a node's name is used, and this is asked for of its number
abbrev pub AsksOf : List (List ℕ) → List ℕ → (ℕ → Item) → List Item → List (List ℕ) → Type 0
AsksOf names name asked items after = (k : ℕ) × IsNumber after name k × (after ≡ names_after_use names name) × (items ≡ entering names name ++ asked k ∷ [])

-- no name is used
abbrev pub AsksOnly : List (List ℕ) → Item → List Item → List (List ℕ) → Type 0
AsksOnly names asked items after = (items ≡ asked ∷ []) × (after ≡ names)

-- what is said asks for these items, and leaves these names
abbrev pub Asks : List (List ℕ) → Said → List Item → List (List ℕ) → Type 0
Asks names (SaysWhole whole) = AsksOnly names (asked_whole whole)
Asks names (SaysCounted word n) = AsksOnly names (asked_counted word n)
Asks names (SaysNamed word name) = AsksOf names name (asked_named word)
Asks names (SaysEdit name request) = AsksOf names name (λ k. Happens (world.MakeEdit k request))
Asks names (SaysSend name i) = AsksOf names name (λ k. Happens (world.Send k i))
Asks names (SaysTell v name) = AsksOf names name (λ k. Happens (world.Tell v k))

-- where it names a node, this is a node's name
abbrev pub NamesNode : Said → Type 0
NamesNode (SaysWhole whole) = Unit {0}
NamesNode (SaysCounted word n) = Unit {0}
NamesNode (SaysNamed word name) = IsNodeName name
NamesNode (SaysEdit name request) = IsNodeName name
NamesNode (SaysSend name i) = IsNodeName name
NamesNode (SaysTell v name) = IsNodeName name

-- given the names used before, the line asks for these items, and these are the names used after it
abbrev pub LineSays : List (List ℕ) → List ℕ → List Item → List (List ℕ) → Type 0
LineSays names line items after = (said : Said) × SpellsLine line said × Asks names said items after

-- what is said adds what it asks for to the items
abbrev pub AddsAsked : List (List ℕ) → Said → List Item → List (List ℕ) → List Item → Type 0
AddsAsked names said before after items = (asked : List Item) × Asks names said asked after × (items ≡ before ++ asked)
