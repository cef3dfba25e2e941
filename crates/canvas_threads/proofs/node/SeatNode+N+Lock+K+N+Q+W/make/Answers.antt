use Rattle.std.proofs.Common.{ap}
use Rattle.canvas_model.specs.Client.{Client}
use Rattle.canvas_threads.proofs.Following.{edit_follows, refused_follows, refused_so}
use Rattle.canvas_threads.proofs.node.SeatNode+N+Lock+K+N+Q+W.make.Goals as goal

pub returns-in-Ok : goal.returns-in-Ok
returns-in-Ok g c =
    let made = c.in-Ok.ensures.ok in
    record {
      same = ap (λ (x : Client). x.id) made.2;
      follows = λ requests f. edit_follows c.every_follower.ensures.edits g.N.RoomName.opening requests c.args.self.now.link c.args.self.now.client c.edit.new.self c.args.request.now made f;
    }

pub returns-in_ok-pass_over-in-Err : goal.returns-in_ok-pass_over-in-Err
returns-in_ok-pass_over-in-Err g c =
    let refused = refused_so c.args.self.now.client c.args.request.now c.in-Err.error c.in_ok-pass_over-in-Err.ensures c.in-Err.ensures.refused in
    record {
      same = ap (λ (x : Client). x.id) c.in-Err.ensures.err;
      follows = λ requests f. refused_follows g.N.RoomName.opening requests c.args.self.now.link c.args.self.now.client c.edit.new.self c.args.request.now refused c.in-Err.ensures.err f;
    }
