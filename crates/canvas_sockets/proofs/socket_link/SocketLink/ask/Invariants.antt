use Rattle.std.proofs.Common.{map}
use Rattle.canvas_judge.specs.Seen.{seen_message}
use Rattle.canvas_nodes.specs.Answers.{AreDecoded, IsBegun}
use Rattle.canvas_sockets.proofs.socket_link.SocketLink.ask.Given as goal

abbrev pub invariant-loop-count : goal.invariant-loop-count
invariant-loop-count g l = IsBegun (map seen_message l.answer.items) × AreDecoded (map seen_message l.answer.items)
