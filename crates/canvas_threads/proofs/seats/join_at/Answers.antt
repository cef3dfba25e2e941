use Rattle.std.proofs.Common.{subst}
use Rattle.std.proofs.lemmas.Result.{on_ok_weaker, IfErr-weaker}
use Rattle.canvas_model.specs.Client.{Client}
use Rattle.canvas_nodes.specs.Hears.{BreaksAtJoin, HearsOfJoin}
use Rattle.room_handler.specs.Links.{Grants, RefusesRound}
use Rattle.canvas_threads.proofs.Joining.{join_broke, join_legal, joined}
use Rattle.canvas_threads.proofs.seats.join_at.Goals as goal

pub returns-clause-joins : goal.returns-clause-joins
returns-clause-joins g c = on_ok_weaker c.join.result
    (λ h past opens. joined g.N.RoomName.opening past opens c.args.link.now c.join.new.link c.join.new.client
    (subst (λ (x : Client). HearsOfJoin (Grants g.N.RoomName.opening) (RefusesRound g.N.RoomName.opening) x c.args.link.now c.join.new.client c.join.new.link) c.requires h))
    c.join.ensures.hears

pub returns-clause-breaks : goal.returns-clause-breaks
returns-clause-breaks g c = IfErr-weaker c.join.result _ _
    (λ e h past opens. join_broke g.N.RoomName.opening past opens c.args.link.now c.join.new.link e c.join.new.client
    (subst (λ (x : Client). BreaksAtJoin (Grants g.N.RoomName.opening) (RefusesRound g.N.RoomName.opening) e x c.args.link.now c.join.new.client c.join.new.link) c.requires h))
    c.join.ensures.breaks

pub returns-clause-legal : goal.returns-clause-legal
returns-clause-legal g c = on_ok_weaker c.join.result (λ h. join_legal g.N.RoomName.opening c.args.link.now h.0 c.join.new.link h.1) c.join.ensures.hears
