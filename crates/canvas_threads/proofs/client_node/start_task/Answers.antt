use denote.Param.Send.{sendable}
use Rattle.canvas_threads.proofs.Sends.{Ended-send}
use Rattle.canvas_threads.proofs.client_node.start_task.Goals as goal

pub spawn_with-requires-send-T : goal.spawn_with-requires-send-T
spawn_with-requires-send-T g c κs within = search (Ended-send, sendable)
