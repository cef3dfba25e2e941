use Rattle.std.proofs.Common.{◌+◌, ◌-◌, refl, arith}
use mathlib.Core.Logic.{inl, inr}
use Rattle.std.proofs.lemmas.Result.{err_from_is_err_and}
use Rattle.canvas_nodes.proofs.Going.{stays}
use Rattle.canvas_nodes.proofs.Hearing.{sent_on}
use Rattle.canvas_nodes.proofs.rounds.send_edits.Goals.{then-acknowledged-before+in_ok-send_edit, else-acknowledged-before}
use Rattle.canvas_nodes.proofs.rounds.send_edits.Goals as goal

pub returns-in_err-send_edit-clause-breaks : goal.returns-in_err-send_edit-clause-breaks
returns-in_err-send_edit-clause-breaks g c =
    let p = err_from_is_err_and c.from_residual.result c.from_residual.ensures.1 in
    rw (p.1, p.2) (
      c.loop-before.before - c.args.client.now.acknowledged,
      c.loop-before.before - c.acknowledged-then-acknowledged-before.result + 1,
      c.loop-before.client,
      c.loop-before.link,
      (let a = c.acknowledged-first.ensures in let b = c.unacknowledged.ensures in let d = c.loop-before-test.true in let e = c.loop-before.invariant.1 in omega arith),
      c.loop-before.invariant.2,
      (let a = c.acknowledged.ensures in let b = c.acknowledged-then-acknowledged-before.ensures in let d = c.if-acknowledged-before.true in let e = c.loop-before.invariant.1 in omega arith),
      c.in_err-send_edit.ensures.breaks,
    )

pub loop-before-preserved : goal.loop-before-preserved
loop-before-preserved g c = elim c.if-acknowledged-before.branch [
  | then-acknowledged-before+in_ok-send_edit w ↦
      sent_on g.L.Link.gives g.L.Link.fails c.args.client.now.acknowledged c.loop-before.before c.args.client.now c.args.link.now c.loop-before.client c.loop-before.link w.send_edit.new.client w.send_edit.new.link
      c.if-acknowledged-before.client c.if-acknowledged-before.link w.client-is w.link-is c.loop-before.invariant w.in_ok-send_edit.ensures.goes_on
      (inr (
        c.loop-before.before - w.acknowledged-then-acknowledged-before.result + 1,
        (let a = c.acknowledged.ensures in let b = w.acknowledged-then-acknowledged-before.ensures in let d = w.if-acknowledged-before.true in omega arith),
        w.in_ok-send_edit.ensures.hears,
      ))
  | else-acknowledged-before w ↦
      sent_on g.L.Link.gives g.L.Link.fails c.args.client.now.acknowledged c.loop-before.before c.args.client.now c.args.link.now c.loop-before.client c.loop-before.link c.loop-before.client c.loop-before.link
      c.if-acknowledged-before.client c.if-acknowledged-before.link w.client-is w.link-is c.loop-before.invariant (stays c.loop-before.client)
      (inl ((let a = c.acknowledged.ensures in let d = w.if-acknowledged-before.false in omega arith), refl, refl))
]
