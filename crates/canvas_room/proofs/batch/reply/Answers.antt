use Rattle.canvas_server.specs.Asked.{seen_request}
use Rattle.canvas_room.proofs.Saying.{said_answers}
use Rattle.canvas_room.proofs.batch.reply.Goals as goal

pub new-requires : goal.new-requires
new-requires g c = said_answers g.N.RoomName.opening (seen_request c.args.ticket.request) c.args.answer c.args.ticket.seen c.args.due.now c.learned-learns.result c.requires c.learned-learns.ensures.learns
