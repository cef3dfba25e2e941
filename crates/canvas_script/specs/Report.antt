-- The blocks of a world, and its report.
use Rattle.std.specs.Prelude.{◌≡◌, ℕ, zero, suc, List, [], ◌++◌, codes, length, Option, None, Some}
use Rattle.std.specs.Fmt.{decimal}
use Rattle.canvas_model.specs.Numbered.{nth}
use Rattle.canvas_model.specs.World.{Node, World, node, state}
use Rattle.canvas_lines.specs.Blocks.{IsBlockText}
use Rattle.canvas_edit_lines.specs.Heads.{node_head}

-- what the server holds
abbrev pub server_head : World → List ℕ
server_head w =
    codes "server version " ++ decimal (length w.log) ++ codes " synced " ++ decimal w.synced ++ codes " published " ++ decimal w.published ++ codes " floor " ++ decimal w.floor

-- the server's block: its tree is that of its whole log
abbrev pub IsServerBlock : World → List ℕ → Type 0
IsServerBlock w text = IsBlockText (server_head w) (state w).doc text

-- the block of a node of this name: its tree is that of its view
abbrev pub IsBlockOf : Option (List ℕ) → Option Node → List ℕ → Type 0
IsBlockOf (Some name) (Some n) text = IsBlockText (node_head name n.client) n.client.view text
IsBlockOf None n text = text ≡ []
IsBlockOf (Some name) None text = text ≡ []

-- the block of node k; none where there is no such node
abbrev pub IsNodeBlock : List (List ℕ) → World → ℕ → List ℕ → Type 0
IsNodeBlock names w k text = IsBlockOf (nth names k) (node w k) text

-- the blocks of the first k nodes, in their order
abbrev pub AreBlocks : List (List ℕ) → World → ℕ → List ℕ → Type 0
AreBlocks names w zero text = text ≡ []
AreBlocks names w (suc k) text = (before block : List ℕ) × AreBlocks names w k before × IsNodeBlock names w (suc k) block × (text ≡ before ++ block)

-- the server's block, and then one for each node
abbrev pub IsWorldReportText : List (List ℕ) → World → List ℕ → Type 0
IsWorldReportText names w text = (server nodes : List ℕ) × IsServerBlock w server × AreBlocks names w (length names) nodes × (text ≡ server ++ nodes)

-- the text got the server's block
abbrev pub AddsServerBlock : World → List ℕ → List ℕ → Type 0
AddsServerBlock w before after = (text : List ℕ) × IsServerBlock w text × (after ≡ before ++ text)

-- the text got the block of node k
abbrev pub AddsNodeBlock : List (List ℕ) → World → ℕ → List ℕ → List ℕ → Type 0
AddsNodeBlock names w k before after = (text : List ℕ) × IsNodeBlock names w k text × (after ≡ before ++ text)

-- the text got the blocks of the first k nodes
abbrev pub AddsBlocks : List (List ℕ) → World → ℕ → List ℕ → List ℕ → Type 0
AddsBlocks names w k before after = (text : List ℕ) × AreBlocks names w k text × (after ≡ before ++ text)

-- the text got the report
abbrev pub AddsReport : List (List ℕ) → World → List ℕ → List ℕ → Type 0
AddsReport names w before after = (text : List ℕ) × IsWorldReportText names w text × (after ≡ before ++ text)
