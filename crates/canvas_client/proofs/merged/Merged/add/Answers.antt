use Rattle.std.proofs.Common.{sym, ap, ◌∙◌}
use Rattle.std.specs.Option.{option_copied}
use Rattle.canvas_model.specs.Overlay.{lay}
use Rattle.canvas_client.proofs.Pushed.{at_ok, last_pushed}
use Rattle.canvas_client.proofs.merged.Merged.add.Goals as goal

pub returns-clause-waiting : goal.returns-clause-waiting
returns-clause-waiting g c = c.in_ok-push.ensures.ok

pub returns-clause-view : goal.returns-clause-view
returns-clause-view g c =
    let last = last_pushed c.args.self.now.waiting c.push.new.self c.args.change c.unwrap-last.result.now c.len.result c.in_ok-push.ensures.ok c.len.ensures (sym c.get.ensures ∙ ap option_copied c.unwrap-last.ensures) in
    at_ok c.overlay.result (sym c.is_err.ensures.value ∙ c.if-is_err.false) c.overlay.ensures.ok ∙ ap (lay c.args.self.now.shown.doc) last
