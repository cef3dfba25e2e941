-- The words of a line.
use Rattle.std.specs.Prelude.{◌≡◌, ℕ, ◌≤◌, ◌^◌, List}
use Rattle.std.specs.Fmt.{decimal}
use Rattle.canvas_script.specs.Names.{IsNodeName}

-- these digits are the number, which is at most 2^62
abbrev pub SpellsCount : List ℕ → ℕ → Type 0
SpellsCount word n = (n ≤ 2 ^ 62) × (word ≡ decimal n)

-- the word is the node's name
abbrev pub SpellsNode : List ℕ → List ℕ → Type 0
SpellsNode word name = IsNodeName name × (word ≡ name)
