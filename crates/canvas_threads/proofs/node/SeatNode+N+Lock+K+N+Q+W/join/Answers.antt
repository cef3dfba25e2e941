use Rattle.std.proofs.Common.{[]}
use Rattle.canvas_threads.proofs.node.SeatNode+N+Lock+K+N+Q+W.join.Goals as goal

pub returns : goal.returns
returns g c = c.in_ok-exchange.ensures.follows [] c.in_ok-ask_id.ensures
