use Rattle.std.proofs.Common.{List, subst}
use Rattle.canvas_server.specs.Asked.{seen_request}
use Rattle.canvas_board.specs.Marks.{Mark}
use Rattle.canvas_room.specs.Seats.{Learns}
use Rattle.canvas_room.proofs.Told.{answer_to}
use Rattle.canvas_room.proofs.asking.ask.Goals as goal

pub returns-in-None : goal.returns-in-None
returns-in-None g c =
    let said = c.submit-answer.ensures in
    let learns = subst (λ (l : List Mark). Learns c.submit-answer.result c.args.seen.now l c.learned-learns.result) c.shown.ensures.shown c.learned-learns.ensures.learns in
    answer_to g.N.RoomName.opening (seen_request c.args.request) c.submit-answer.result c.args.seen.now c.args.desk.now.history _ _ _ c.learned-learns.result _ _ c.requires said.longer said.ok said.ends said.refused said.settled learns c.learned-learns.ensures.legal c.in-None.ensures.none
