-- What a round over a link to a seat gives.
use Rattle.std.specs.Prelude.{List, [], ◌∷◌}
use Rattle.canvas_model.specs.Messages.{Message, No}
use Rattle.canvas_board.specs.Marks.{Mark, Opening}
use Rattle.canvas_nodes.specs.Answers.{refusal_alone}
use Rattle.canvas_nodes.specs.declared.link.LinkError.{LinkError}
use Rattle.canvas_nodes.specs.declared.link.LinkError.TheVariants as link
use Rattle.room_handler.specs.Table.{Gives, SeesOn}

-- the answer is a No
abbrev pub IsNo : List Message → Type 0
IsNo (No n ∷ []) = Unit {0}
IsNo _ = ⊥

-- what a round gives: an answer by the table that is no No
abbrev pub Grants : Opening → List Mark → Message → List Message → List Mark → Type 0
Grants o old m answer new = Gives o old m answer new × (IsNo answer → ⊥)

-- why a round gives no answer: the seat's answer is a No for this reason, or memory was refused for one
abbrev pub RefusesRound : Opening → List Mark → Message → LinkError → List Mark → Type 0
RefusesRound o old m (link.Refused reason) new = Gives o old m (refusal_alone reason) new
RefusesRound o old m link.Memory new = SeesOn o old new
RefusesRound o old m _ new = ⊥
