-- The head of a client's block.
use Rattle.std.specs.Prelude.{ℕ, List, ◌++◌, codes, length, Option, None, Some}
use Rattle.std.specs.Fmt.{decimal}
use Rattle.canvas_model.specs.Client.{Client}

-- a node's id, or - where it has none
abbrev pub id_word : Option ℕ → List ℕ
id_word None = codes "-"
id_word (Some c) = decimal c

-- a node's name, its id, its version, and how many of its edits wait
abbrev pub node_head : List ℕ → Client → List ℕ
node_head name client =
    name ++ codes " id " ++ id_word client.id ++ codes " version " ++ decimal client.version ++ codes " waiting " ++ decimal (length client.waiting)
