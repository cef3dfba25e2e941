use denote.Exit.{no}
use denote.Param.{param}
use denote.Param.Send.{param_send, arg_send}
use Rattle.canvas_room.proofs.Sends.{Room-seat-send}
use Rattle.canvas_room_tests.proofs.threads.meet.Goals as goal

pub all_do_beside-requires-send-S : goal.all_do_beside-requires-send-S
all_do_beside-requires-send-S g c κs lives =
    let b = c.type_bounds in
    let s = Room-seat-send (param 0 g.row.K) (param 1 g.row.N) (param 2 g.row.Q) g.K.Keeper g.N.RoomName b.send-K b.send-N b.sync-N b.send-Q in
    param_send 0 _ (arg_send _ no _ s)
