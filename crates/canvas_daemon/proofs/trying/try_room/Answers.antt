use denote.Exit.{no}
use denote.Param.{param}
use denote.Param.Send.{param_send, arg_send}
use Rattle.canvas_room.proofs.Sends.{Room-seat-send}
use Rattle.canvas_daemon.proofs.trying.try_room.Goals as goal

-- each thread of the server is given a seat
pub edit_both-requires-send-S : goal.edit_both-requires-send-S
edit_both-requires-send-S g c κs lives =
    let b = c.type_bounds in
    let s = Room-seat-send (param 1 g.row.K) (param 0 g.row.N) (param 2 g.row.R) g.K.Keeper g.N.RoomName b.send-K b.send-N b.sync-N b.send-R in
    param_send 0 _ (arg_send _ no _ s)
