use denote.Exit.{no}
use denote.Param.{param}
use denote.Param.Send.{param_send, arg_send}
use Rattle.canvas_room.proofs.Sends.{Room-seat-send, lock}
use Rattle.canvas_threads.proofs.Sends.{SeatLink-send}
use Rattle.canvas_threads_tests.proofs.client_nodes.joined_at.Goals as goal

pub joined-requires-send-L : goal.joined-requires-send-L
joined-requires-send-L g c κs lives =
    let b = c.type_bounds in
    let s = Room-seat-send (param 0 g.row.K) (param 1 g.row.N) (param 2 g.row.R) g.K.Keeper g.N.RoomName b.send-K b.send-N b.sync-N b.send-R in
    param_send 0 _ (arg_send _ no _ (SeatLink-send (param 1 g.row.N) (lock (param 0 g.row.K) (param 1 g.row.N) (param 2 g.row.R) g.K.Keeper g.N.RoomName) (param 2 g.row.R) g.N.RoomName s b.send-R))
