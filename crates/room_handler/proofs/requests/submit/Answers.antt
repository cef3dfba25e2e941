use Rattle.std.proofs.Common.{◌∙◌}
use Rattle.canvas_server.specs.Asked.{seen_request}
use Rattle.room_handler.proofs.Judged.{judged_of}
use Rattle.room_handler.proofs.requests.submit.Goals as goal

pub returns-in-Ok-clause-says : goal.returns-in-Ok-clause-says
returns-in-Ok-clause-says g c = judged_of g.N.RoomName.opening c.args.seat.now c.take_in.new.seat (seen_request c.args.request) c.in-Ok.receipt _ _ c.in-Ok.ensures.told c.take_in.ensures.learned (c.entry-in-Ok.ensures ∙ c.entry.ensures) c.judged-message.ensures
