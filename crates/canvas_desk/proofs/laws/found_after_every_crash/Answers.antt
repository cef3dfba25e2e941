use Rattle.canvas_desk.proofs.Crashes.{each_of_batch, each_receipt, each_run, each_seen}
use Rattle.canvas_desk.proofs.laws.found_after_every_crash.Goals as goal

pub returns-clause-history : goal.returns-clause-history
returns-clause-history g c = each_run g.N.RoomName.opening g.K.Keeper.honest g.K.Keeper.moment g.K.Keeper.left_since g.K.Keeper.finds g.K.Keeper.keeps

pub returns-clause-seen : goal.returns-clause-seen
returns-clause-seen g c = each_seen g.N.RoomName.opening g.K.Keeper.honest g.K.Keeper.moment g.K.Keeper.left_since g.K.Keeper.finds g.K.Keeper.keeps

pub returns-clause-receipt : goal.returns-clause-receipt
returns-clause-receipt g c = each_receipt g.N.RoomName.opening

pub returns-clause-receipts : goal.returns-clause-receipts
returns-clause-receipts g c = each_of_batch g.N.RoomName.opening
