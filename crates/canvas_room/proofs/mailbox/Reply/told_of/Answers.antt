use Rattle.std.proofs.Common.{refl}
use Rattle.canvas_server.specs.Asked.{seen_request}
use Rattle.canvas_room.proofs.Saying.{answer_later}
use Rattle.canvas_room.proofs.mailbox.Reply.told_of.Goals as goal

-- the answer is a receipt that ends later than what was seen
pub returns : goal.returns
returns g c =
    let ticket = c.self.inside.ticket in
    let told = c.self.inside.told in
    answer_later g.N.RoomName.opening (seen_request ticket.request) (seen_request c.args.request.now) told.answer c.in-Ok.receipt ticket.seen c.args.seen.now told.learns c.again.result (c.if-not-same.ensures.0 refl) c.in-Ok.is c.self.invariant
    (c.if-not-ends_later.ensures refl) c.again.ensures.same
