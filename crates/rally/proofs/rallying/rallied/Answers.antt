use Rattle.std.proofs.Common.{◌≡◌, rules, length, ◌∙◌}
use Rattle.canvas_threads.specs.Shown.{ShowsPlan}
use Rattle.rally.specs.Pages.{AsksForPage}
use Rattle.rally.proofs.Rallies.{all_shown, beside_length}
use Rattle.rally.proofs.rallying.rallied.Goals as goal

pub returns-in-Ok-clause-show : goal.returns-in-Ok-clause-show
returns-in-Ok-clause-show g c = λ k d within.
    let s = all_shown (ShowsPlan g.N.RoomName.opening (λ page id requests. AsksForPage id page.sets requests)) c.args.page c.in_ok-plans.plans.items c.in-Ok.clients.items c.in_ok-plans.ensures.each c.in-Ok.ensures k d within in
    record { requests = s.requests; asked = s.asked; shows = s.shows }

pub returns-in-Ok-clause-count : goal.returns-in-Ok-clause-count
returns-in-Ok-clause-count g c =
    let len : c.len.result ≡ length c.args.seats.items = search rules in
    beside_length (ShowsPlan g.N.RoomName.opening (λ page id requests. AsksForPage id page.sets requests)) c.in_ok-plans.plans.items c.in-Ok.clients.items c.in-Ok.ensures ∙ c.in_ok-plans.ensures.count ∙ len
