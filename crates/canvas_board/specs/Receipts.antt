-- What contracts see of a receipt.
use Rattle.std.specs.Prelude.{◌≡◌, ℕ, List, [], ◌∷◌, ◌++◌}
use Rattle.canvas_model.specs.Log.{Entry}
use Rattle.canvas_board.specs.Marks.{Logged, Mark, Opening, board}

-- an entry at its version, and the history that it ends
pub record ReceiptValue : Type 0 where
  pub history : List Mark
  pub entry : Entry
  pub version : ℕ

-- the entry ends the history, at this version
abbrev pub EndsWith : Opening → List Mark → Entry → ℕ → Type 0
EndsWith o history e version = (before : List Mark) × (history ≡ before ++ Logged e ∷ []) × (version ≡ (board o history).version)
