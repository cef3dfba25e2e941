use denote.Exit.{no}
use denote.Param.{param}
use denote.Param.Send.{param_send, arg_send}
use Rattle.canvas_room.proofs.Sends.{Room-seat-send}
use Rattle.app_server.proofs.Sends.{CopyTask-send}
use Rattle.app_server.proofs.hosting.begin_copies.Goals as goal

-- the thread is given a seat
pub begin_task-requires-send-T : goal.begin_task-requires-send-T
begin_task-requires-send-T g c κs within =
    let b = c.type_bounds in
    let s = Room-seat-send (param 1 g.row.K) (param 0 g.row.N) (param 2 g.row.R) g.K.Keeper g.N.RoomName b.send-K b.send-N b.sync-N b.send-R in
    param_send 1 _ (arg_send _ no _ (CopyTask-send _ _ _ _ b.send-N s b.send-R))
