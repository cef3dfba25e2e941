use Rattle.canvas_threads.specs.Shown.{HasFollowed}
use Rattle.canvas_threads.proofs.Lists.{worked_ok}
use Rattle.canvas_threads.proofs.nodes.run_all.Goals as goal

pub returns : goal.returns
returns g c =
    worked_ok (λ plan done. HasFollowed g.P.Plan.asks g.S.Site.follows plan done.site done.client) (λ job. job.plan) c.in_ok-jobs.jobs.items c.args.plans.items c.in_ok-ended.ended.items (λ v. v.items) c.all_done.result
    c.in_ok-jobs.ensures c.in_ok-ended.ensures.len c.in_ok-ended.ensures.each c.all_done.ensures
