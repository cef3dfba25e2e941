use Rattle.std.proofs.Common.{◌≡◌, true, false, arith}
use Rattle.canvas_doc.proofs.Standing.{rest_done, rest_step}
use Rattle.canvas_doc.proofs.Walked.{any_is, none_under}
use Rattle.canvas_doc.proofs.spots.is_any_under.Goals as goal

pub returns-in-Some : goal.returns-in-Some
returns-in-Some g c d are =
    let at = c.from_start-rest.ensures in
    let x = c.in-Some.spot.now in
    let step = rest_step c.args.spots.now c.from_start-rest.result c.next.new.self at.0 x at.2 c.in-Some.ensures.steps in
    any_is d c.args.spots.now are c.args.parent at.0 at.1 x step.0 step.1 c.eq.result c.eq.ensures

pub returns-in-None : goal.returns-in-None
returns-in-None g c d are =
    let at = c.from_start-rest.ensures in
    let past = rest_done c.args.spots.now c.from_start-rest.result at.0 at.2 c.in-None.ensures.steps.0 in
    ((λ yes. absurd (let f : false ≡ true = yes in cc f)), (λ child. absurd (none_under d c.args.spots.now are c.args.parent at.0 at.1 (λ s lt same. omega (arith, past, lt)) child.0 child.1)))
