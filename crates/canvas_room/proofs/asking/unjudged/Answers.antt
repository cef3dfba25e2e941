use Rattle.canvas_room.proofs.Saying.{unjudged_answers}
use Rattle.canvas_room.proofs.asking.unjudged.Goals as goal

pub returns : goal.returns
returns g c q = unjudged_answers g.N.RoomName.opening q c.args.error c.args.seen.now c.again.result c.requires c.again.ensures.same
