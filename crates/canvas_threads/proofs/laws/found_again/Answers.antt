use Rattle.canvas_threads.proofs.Crashes.{each_acknowledged_found}
use Rattle.canvas_threads.proofs.laws.found_again.Goals as goal

pub returns : goal.returns
returns g c = each_acknowledged_found g.N.RoomName.opening g.K.Keeper.honest g.K.Keeper.moment g.K.Keeper.left_since g.K.Keeper.finds g.K.Keeper.keeps c.found_after_every_crash.ensures.seen
