-- What a seat has seen after an exchange over a link to it.
use Rattle.std.specs.Prelude.{List}
use Rattle.canvas_model.specs.Client.{Client}
use Rattle.canvas_board.specs.Marks.{Mark, Opening}
use Rattle.canvas_nodes.specs.declared.link.LinkError.{LinkError}
use Rattle.canvas_nodes.specs.Hears.{BreaksOff, Exchanges}
use Rattle.room_handler.specs.Links.{Grants, RefusesRound}
use Rattle.room_handler.specs.Table.{SeesOn}

-- What a seat has seen after an exchange goes on from what it had seen before, whether the exchange came to its end or broke off.
pub record ExchangesSeeOn (o : Opening) : Type 0 where
  pub exchanged : (old : Client) (before : List Mark) (new : Client) (after : List Mark) → Exchanges (Grants o) (RefusesRound o) old before new after → SeesOn o before after
  pub broke_off : (e : LinkError) (old : Client) (before : List Mark) (new : Client) (after : List Mark) → BreaksOff (Grants o) (RefusesRound o) e old before new after
      → SeesOn o before after
