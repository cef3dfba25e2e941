use Rattle.canvas_room.proofs.Told.{failure_answers}
use Rattle.canvas_room.proofs.asking.failed.Goals as goal

pub returns : goal.returns
returns g c q = failure_answers g.N.RoomName.opening q c.args.error c.args.seen.now _ c.requires.error c.learned_of.ensures
