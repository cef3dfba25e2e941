use Rattle.std.proofs.Common.{◌-◌, ◌≡◌, Some, sym, ap, subst, ◌∙◌, rules, arith}
use Rattle.std.specs.FinMap as map
use Rattle.canvas_model.specs.Ids.{root}
use Rattle.canvas_model.specs.Document.{Place, place_of}
use Rattle.canvas_model.specs.Depth.{LiesBelow}
use Rattle.canvas_doc.proofs.Levels.{depth_there, depth_more}
use Rattle.canvas_doc.proofs.Climbed.{climb_starts, climb_more, climb_ends, climb_done, differing}
use Rattle.canvas_doc.proofs.Doc.depth.Goals as goal

pub loop-steps-init : goal.loop-steps-init
loop-steps-init g c = record {
  from_here = λ n b. subst (λ k. LiesBelow c.args.self.now k c.args.id root) (omega arith) b;
  reached = λ b. climb_starts c.args.self.now c.args.id root (map.len c.args.self.now - 0) (omega arith) b;
}

pub returns-then-eq : goal.returns-then-eq
returns-then-eq g c =
    let same : c.loop-steps.at ≡ root = search rules in
    depth_there c.args.self.now c.loop-steps.steps c.loop-steps.at c.args.id c.objects-objects.ensures.document same c.loop-steps.invariant.from_here

pub returns-in_default : goal.returns-in_default
returns-in_default g c b =
    let counted = c.len-steps-end.ensures ∙ sym (map.len-entries c.args.self.now) in
    let apart = differing c.loop-steps.at root c.eq.result c.eq.ensures c.if-eq.false in
    climb_ends c.args.self.now c.args.id root c.loop-steps.at (map.len c.args.self.now) c.loop-steps.steps (omega (arith, c.loop-steps-test.true, counted)) c.loop-steps.invariant.reached apart (sym c.in_default.ensures) b

pub loop-steps-preserved : goal.loop-steps-preserved
loop-steps-preserved g c =
    let counted = c.len-steps-end.ensures ∙ sym (map.len-entries c.args.self.now) in
    let apart = differing c.loop-steps.at root c.eq.result c.eq.ensures c.if-eq.false in
    let place : Place = record { parent = c.place.inside.parent; pos = c.place.inside.pos } in
    let stands : place_of c.args.self.now c.loop-steps.at ≡ Some place = sym c.in-Some.ensures ∙ ap Some (sym c.place.view_is) in
    record {
      from_here = depth_more c.args.self.now c.loop-steps.steps c.loop-steps.at c.args.id place stands c.loop-steps.invariant.from_here;
      reached = λ b. climb_more c.args.self.now c.args.id root c.loop-steps.at (map.len c.args.self.now) c.loop-steps.steps (omega (arith, c.loop-steps-test.true, counted)) c.loop-steps.invariant.reached apart place stands b;
    }

pub returns : goal.returns
returns g c b =
    let counted = c.len-steps-end.ensures ∙ sym (map.len-entries c.args.self.now) in
    climb_done c.args.self.now c.args.id root c.loop-steps.at (map.len c.args.self.now) c.loop-steps.steps (omega (arith, c.loop-steps-test.false, counted)) c.loop-steps.invariant.reached b
