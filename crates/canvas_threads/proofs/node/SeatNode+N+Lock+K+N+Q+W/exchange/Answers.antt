use Rattle.canvas_threads.proofs.Following.{exchanged_follows, exchanged_shows, id_stays}
use Rattle.canvas_threads.proofs.node.SeatNode+N+Lock+K+N+Q+W.exchange.Goals as goal

pub returns-in-Ok : goal.returns-in-Ok
returns-in-Ok g c =
    let o = g.N.RoomName.opening in
    record {
      same = id_stays c.args.self.now.client c.exchange_at.new.client c.requires c.exchange_at.ensures.goes_on;
      follows = λ requests f. exchanged_follows o requests c.args.self.now.link c.exchange_at.new.link c.args.self.now.client c.exchange_at.new.client c.exchange_at.ensures.goes_on c.exchange_at.ensures.sees f c.exchange_at.ensures.follows;
      shows = λ requests f. exchanged_shows o requests c.args.self.now.link c.exchange_at.new.link c.args.self.now.client c.exchange_at.new.client c.exchange_at.ensures.goes_on c.exchange_at.ensures.sees f c.exchange_at.ensures.follows c.in-Ok.ensures.up_to_date;
    }

pub returns-in-Err-clause-same : goal.returns-in-Err-clause-same
returns-in-Err-clause-same g c = id_stays c.args.self.now.client c.exchange_at.new.client c.requires c.exchange_at.ensures.goes_on
