use denote.Exit.{no}
use denote.Param.{param}
use denote.Param.Send.{param_send, arg_send}
use Rattle.canvas_threads.proofs.Sends.{Work-send}
use Rattle.canvas_threads.proofs.client_node.ClientNode.start.Goals as goal

pub start_task-requires-send-T : goal.start_task-requires-send-T
start_task-requires-send-T g c κs within =
    let b = c.type_bounds in
    param_send 0 _ (arg_send _ no _ (Work-send (param 0 g.row.L) (param 1 g.row.R) b.send-L b.send-R))
