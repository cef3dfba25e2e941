-- A seat that answers clients: the table, under a limit of edits.
use Rattle.std.specs.Prelude.{◌≡◌, ◌⊎◌, ℕ, List, Option, None, Some}
use Rattle.canvas_model.specs.Messages.{Message}
use Rattle.canvas_judge.specs.declared.message.NoReason.TheVariants as no
use Rattle.canvas_board.specs.Marks.{Mark, Opening}
use Rattle.canvas_nodes.specs.Answers.{refusal_alone}
use Rattle.room_handler.specs.Large.{IsTooLarge}
use Rattle.room_handler.specs.Table.{Gives, SeesOn}

-- A seat: what it has seen, and how many bytes the text of an edit may have, if there is a limit.
pub record SeatValue : Type 0 where
  pub seen : List Mark
  pub limit : Option ℕ

-- an edit whose text has more bytes than the limit, if there is one
abbrev pub IsOverLimit : Option ℕ → Message → Type 0
IsOverLimit None m = ⊥
IsOverLimit (Some limit) m = IsTooLarge limit m

-- an edit over the limit is refused, and nothing more was seen
abbrev pub RefusesSize : SeatValue → Message → List Message → SeatValue → Type 0
RefusesSize old m answer new = IsOverLimit old.limit m × (answer ≡ refusal_alone no.TooLarge) × (new ≡ old)

-- any other message is answered by the table, and the limit stays
abbrev pub GivesByTable : Opening → SeatValue → Message → List Message → SeatValue → Type 0
GivesByTable o old m answer new = (IsOverLimit old.limit m → ⊥) × Gives o old.seen m answer new.seen × (new.limit ≡ old.limit)

-- what a seat answers a message, and how it stands afterwards
abbrev pub SeatGives : Opening → SeatValue → Message → List Message → SeatValue → Type 0
SeatGives o old m answer new = RefusesSize old m answer new ⊎ GivesByTable o old m answer new

-- no more was seen than goes on from what was, and the limit stays
abbrev pub SeatSeesOn : Opening → SeatValue → SeatValue → Type 0
SeatSeesOn o old new = SeesOn o old.seen new.seen × (new.limit ≡ old.limit)
