use Rattle.std.proofs.Common.{take, map}
use Rattle.canvas_judge.specs.Seen.{seen_message}
use Rattle.canvas_nodes.specs.GoesOn.{GoesOn}
use Rattle.canvas_nodes.specs.Hears.{HearsEach}
use Rattle.canvas_threads.proofs.pushes.hear.Given as goal

abbrev pub invariant-loop-message : goal.invariant-loop-message
invariant-loop-message l = GoesOn l.initial.client l.client × HearsEach l.initial.client (map seen_message (take l.message-index l.messages)) l.client
