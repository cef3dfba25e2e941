use Rattle.canvas_turns.proofs.Steps.{no_byte_is_lost}
use Rattle.canvas_turns.proofs.laws.every_connection.Goals as goal

pub returns : goal.returns
returns g c = no_byte_is_lost g.H.Replier.replies g.H.Handler.tells g.H.Handler.goes_to g.H.Handler.whispers g.H.Handler.between g.I.Read.remaining g.O.Write.contents
