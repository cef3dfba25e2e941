use Rattle.std.proofs.Common.{◌≡◌, ◌∙◌, suc, length, sym, ap, arith}
use Rattle.canvas_doc.proofs.Told.{told_other, not_other}
use Rattle.canvas_doc.proofs.Standing.{pass_more, rest_done, rest_step}
use Rattle.canvas_doc.proofs.Walked.{children_are, ids_more}
use Rattle.canvas_doc.proofs.spots.ids_under.Goals as goal

pub loop-spot-init : goal.loop-spot-init
loop-spot-init g c =
    let at = c.from_start-rest.ensures in
    let none : length c.new-ids.result.items ≡ 0 = ap length c.new-ids.ensures.items in
    (at.0, at.1, at.0, at.2, omega arith, at.1.within, (λ k d low lt. absurd (omega arith)), record { long = omega (arith, none); each = λ k r s lt. absurd (omega (arith, none)) })

pub loop-spot-preserved : goal.loop-spot-preserved
loop-spot-preserved g c =
    let inv = c.loop-spot.invariant in
    let x = c.in-Some.spot.now in
    let step = rest_step c.args.spots.now c.loop-spot.rest c.next.new.self inv.2 x inv.3 c.in-Some.ensures.steps in (
      inv.0,
      inv.1,
      suc inv.2,
      step.2,
      omega arith,
      omega (arith, step.0),
      pass_more (λ s. s.parent ≡ c.args.parent) c.args.spots.now inv.0 inv.2 x inv.6 step.1 (not_other x.parent c.args.parent c.ne.result c.ne.ensures c.if-ne.false),
      ids_more c.args.spots.now inv.0 inv.2 c.loop-spot.ids.items c.push.new.self.items x inv.7 step.1 c.in_ok-push.ensures.items,
    )

pub returns-then-ne : goal.returns-then-ne
returns-then-ne g c d are =
    let inv = c.loop-spot.invariant in
    let x = c.in-Some.spot.now in
    let step = rest_step c.args.spots.now c.loop-spot.rest c.next.new.self inv.2 x inv.3 c.in-Some.ensures.steps in
    children_are d c.args.spots.now are c.args.parent inv.0 inv.2 inv.1 inv.4 inv.5 inv.6
    (λ s lt same. told_other x.parent c.args.parent c.ne.result c.ne.ensures c.if-ne.true (ap (λ y. y.parent) (sym (step.1 s)) ∙ same)) c.loop-spot.ids.items inv.7

pub returns : goal.returns
returns g c d are =
    let inv = c.loop-spot.invariant in
    let past = rest_done c.args.spots.now c.loop-spot.rest inv.2 inv.3 c.in_default.ensures.steps.0 in
    children_are d c.args.spots.now are c.args.parent inv.0 inv.2 inv.1 inv.4 inv.5 inv.6
    (λ s lt same. omega (arith, past)) c.loop-spot.ids.items inv.7
