use Rattle.canvas_threads.proofs.Following.{exchanged_follows, id_stays}
use Rattle.canvas_threads.proofs.listening.hear_more.Goals as goal

pub returns-in-Ok : goal.returns-in-Ok
returns-in-Ok g c = record {
  same = id_stays c.args.client.now c.hear_at.new.client c.requires c.hear_at.ensures.goes_on;
  follows = λ requests f. exchanged_follows g.N.RoomName.opening requests c.args.seat.now c.hear_at.new.seat c.args.client.now c.hear_at.new.client c.hear_at.ensures.goes_on c.hear_at.ensures.sees f c.hear_at.ensures.follows;
}

pub returns-in-Err-clause-same : goal.returns-in-Err-clause-same
returns-in-Err-clause-same g c = id_stays c.args.client.now c.hear_at.new.client c.requires c.hear_at.ensures.goes_on
