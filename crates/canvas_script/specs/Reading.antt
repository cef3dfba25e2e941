-- What a whole script says, and its bad line.
use Rattle.std.specs.Prelude.{◌≡◌, ℕ, ◌-◌, ◌<◌, ◌≤◌, Bool, true, false, List, [], ◌∷◌, ◌++◌, length, take, codes}
use Rattle.canvas_lines.specs.Lines.{lines_of, meaningful}
use Rattle.canvas_script.specs.Script.{Item}
use Rattle.canvas_script.specs.Lines.{Said, SpellsLine}
use Rattle.canvas_script.specs.Asked.{LineSays}

-- each line in order, given the names used before: what they ask for, and the names used after them
abbrev pub EachSays : List (List ℕ) → List (List ℕ) → List Item → List (List ℕ) → Type 0
EachSays names [] items after = (items ≡ []) × (after ≡ names)
EachSays names (line ∷ lines) items after = (first : List Item) × (between : List (List ℕ)) × (more : List Item) × LineSays names line first between × EachSays between lines more after × (items ≡ first ++ more)

-- the word `world`, and then each line in order; without any line nothing is asked for
abbrev pub WorldSays : List (List ℕ) → List (List ℕ) → List Item → Type 0
WorldSays [] names items = (items ≡ []) × (names ≡ [])
WorldSays (line ∷ lines) names items = (line ≡ codes "world") × EachSays [] lines items names

-- the lines that aren't passed over ask for these items, and use these names
abbrev pub LinesSay : List (List ℕ) → List (List ℕ) → List Item → Type 0
LinesSay lines names items = WorldSays (meaningful lines) names items

-- the input asks for these items, and uses these names
abbrev pub InputSays : List ℕ → List (List ℕ) → List Item → Type 0
InputSays input names items = LinesSay (lines_of input) names items

-- the n-th line, from 1, is the first that can't be read: those before it ask for something, with it they don't
pub record IsBadScriptLine (input : List ℕ) (n : ℕ) : Type 0 where
  pub some : 0 < n
  pub within : n ≤ length (lines_of input)
  pub before : (names : List (List ℕ)) × (items : List Item) × LinesSay (take (n - 1) (lines_of input)) names items
  pub bad : (names : List (List ℕ)) (items : List Item) → LinesSay (take n (lines_of input)) names items → ⊥

-- the first line that isn't passed over is the word `world`
abbrev pub IsWorld : List ℕ → Type 0
IsWorld input = (lines : List (List ℕ)) × (meaningful (lines_of input) ≡ codes "world" ∷ lines)

-- the first line that isn't passed over is read as the word `world`, and each later one by what it says
abbrev pub IsScriptLineRead : Bool → List ℕ → List (List ℕ) → List Item → List (List ℕ) → List Item → Type 0
IsScriptLineRead false line names before after items = (line ≡ codes "world") × (after ≡ names) × (items ≡ before)
IsScriptLineRead true line names before after items = (first : List Item) × LineSays names line first after × (items ≡ before ++ first)

-- it can't be read there
abbrev pub IsScriptLineUnread : Bool → List ℕ → Type 0
IsScriptLineUnread false line = line ≡ codes "world" → ⊥
IsScriptLineUnread true line = (said : Said) → SpellsLine line said → ⊥

-- an input that says something has no bad line
abbrev pub NoScriptLineIsBad : Type 0
NoScriptLineIsBad = (input : List ℕ) (names : List (List ℕ)) (items : List Item) (n : ℕ) → InputSays input names items → IsBadScriptLine input n → ⊥

-- an input has no two bad lines
abbrev pub OneScriptLineIsBad : Type 0
OneScriptLineIsBad = (input : List ℕ) (m n : ℕ) → IsBadScriptLine input m → IsBadScriptLine input n → m ≡ n
