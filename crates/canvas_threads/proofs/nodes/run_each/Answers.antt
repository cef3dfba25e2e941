use denote.Exit.{no}
use denote.Param.{param}
use denote.Param.Send.{param_send, arg_send}
use Rattle.canvas_threads.proofs.Sends.{Ended-each-send}
use Rattle.canvas_threads.proofs.nodes.run_each.Goals as goal

pub map_vec-requires-send-X : goal.map_vec-requires-send-X
map_vec-requires-send-X g c κs lives = param_send 2 _ (arg_send _ no _ (Ended-each-send (param 0 g.row.S) c.type_bounds.send-S))
