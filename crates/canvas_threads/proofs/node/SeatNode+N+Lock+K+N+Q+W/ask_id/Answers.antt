use Rattle.canvas_threads.proofs.Following.{joined_follows}
use Rattle.canvas_threads.proofs.node.SeatNode+N+Lock+K+N+Q+W.ask_id.Goals as goal

pub returns-in-Ok : goal.returns-in-Ok
returns-in-Ok g c =
    joined_follows g.N.RoomName.opening c.args.self.now.link c.join_at.new.link c.args.self.now.client c.join_at.new.client c.requires c.join_at.ensures.goes_on c.in-Ok.ensures.id c.in-Ok.ensures.legal c.in-Ok.ensures.joins
