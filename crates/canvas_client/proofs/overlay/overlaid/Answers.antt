use Rattle.std.proofs.Common.{drop, sym, ap, subst, ◌<◌, ◌≤◌, ◌∙◌}
use Rattle.std.proofs.lemmas.List.{drop_all}
use Rattle.std.specs.Option.{option_copied}
use Rattle.canvas_model.specs.Overlay.{over}
use Rattle.canvas_client.proofs.Changed.{laid_next}
use Rattle.canvas_client.proofs.Pushed.{one_there}
use Rattle.canvas_client.proofs.overlay.overlaid.Goals as goal

pub loop-at-init : goal.loop-at-init
loop-at-init g c = ap (λ d. over d (drop c.args.first c.args.waiting.now)) c.in_ok-view.ensures

pub loop-at-preserved : goal.loop-at-preserved
loop-at-preserved g c =
    laid_next c.loop-at.view c.overlay.new.self c.args.waiting.now c.loop-at.at c.unwrap.result.now (sym c.get.ensures ∙ ap option_copied c.unwrap.ensures) c.in_ok-overlay.ensures.ok ∙ c.loop-at.invariant

pub returns : goal.returns
returns g c =
    sym (ap (over c.loop-at.view) (drop_all c.loop-at.at c.args.waiting.now (subst (λ n. n ≤ c.loop-at.at) c.len-at-end.ensures c.loop-at-test.false))) ∙ c.loop-at.invariant

pub unwrap-requires : goal.unwrap-requires
unwrap-requires g c = one_there c.args.waiting.now c.loop-at.at c.get.result c.get.ensures (subst (λ n. c.loop-at.at < n) c.len-at-end.ensures c.loop-at-test.true)
