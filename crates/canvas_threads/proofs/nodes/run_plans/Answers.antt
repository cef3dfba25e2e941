use denote.Exit.{no}
use denote.Param.{param}
use denote.Param.Send.{param_send, arg_send}
use Rattle.std.specs.Prelude.{IsSome}
use Rattle.canvas_room.proofs.Sends.{Room-seat-send}
use Rattle.canvas_threads.specs.Shown.{Ends, FollowsRoom, HasFollowed, ShowsPlan, ShowsTheRoom}
use Rattle.canvas_threads.proofs.Lists.{all_beside, through_ok}
use Rattle.canvas_threads.proofs.Following.{plan_shows}
use Rattle.canvas_threads.proofs.nodes.run_plans.Goals as goal

pub run_all-requires-send-S : goal.run_all-requires-send-S
run_all-requires-send-S g c κs lives =
    let b = c.type_bounds in
    let s = Room-seat-send (param 0 g.row.K) (param 1 g.row.N) (param 2 g.row.Q) g.K.Keeper g.N.RoomName b.send-K b.send-N b.sync-N b.send-Q in
    param_send 0 _ (arg_send _ no _ s)

pub finish_all-requires : goal.finish_all-requires
finish_all-requires g c = all_beside (λ plan done. HasFollowed g.P.Plan.asks (FollowsRoom g.N.RoomName.opening) plan done.site done.client) (λ done. IsSome done.client.id) _ c.in_ok-nodes.nodes.items (λ plan done f. f.made.joined) c.in_ok-nodes.ensures

pub returns : goal.returns
returns g c =
    through_ok (λ plan done. HasFollowed g.P.Plan.asks (FollowsRoom g.N.RoomName.opening) plan done.site done.client)
    (λ done client. Ends (FollowsRoom g.N.RoomName.opening) (ShowsTheRoom g.N.RoomName.opening) done.site done.client client)
    (ShowsPlan g.N.RoomName.opening g.P.Plan.asks) _ c.in_ok-nodes.nodes.items (λ v. v.items) c.finish_all.result c.in_ok-nodes.ensures c.finish_all.ensures
    (λ plan done client f ends. plan_shows g.N.RoomName.opening g.P.Plan.asks plan done.site done.client client f ends)
