use Rattle.std.proofs.Common.{◌≡◌, length}
use Rattle.canvas_threads.specs.Shown.{ShowsPlan, ShowsTheRoom}
use Rattle.canvas_threads.specs.Worked.{HasWorked}
use Rattle.canvas_threads.proofs.Lists.{weaker_ok}
use Rattle.canvas_threads.proofs.Following.{list_shows, shows_worked}
use Rattle.canvas_threads.proofs.nodes.run_nodes.Goals as goal

pub returns-clause-shows : goal.returns-clause-shows
returns-clause-shows g c =
    weaker_ok (ShowsPlan g.N.RoomName.opening (λ plan id requests. requests ≡ plan.items)) (ShowsTheRoom g.N.RoomName.opening) (λ edits. edits.items) c.args.work.items (λ v. v.items) c.run_plans.result
    (λ edits client s. list_shows g.N.RoomName.opening edits.items s.requests client s.asked s.shows) c.run_plans.ensures

pub returns-clause-worked : goal.returns-clause-worked
returns-clause-worked g c =
    weaker_ok (ShowsPlan g.N.RoomName.opening (λ plan id requests. requests ≡ plan.items)) HasWorked (λ edits. length edits.items) c.args.work.items (λ v. v.items) c.run_plans.result
    (λ edits client s. shows_worked g.N.RoomName.opening edits.items client (list_shows g.N.RoomName.opening edits.items s.requests client s.asked s.shows)) c.run_plans.ensures
