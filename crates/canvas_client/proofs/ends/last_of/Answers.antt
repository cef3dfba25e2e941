use Rattle.std.proofs.Common.{◌-◌, ◌<◌, length, get_or, arith}
use Rattle.std.proofs.lemmas.List.{get_or_default}
use Rattle.canvas_model.specs.declared.ObjId.{ObjId}
use Rattle.canvas_client.proofs.Lasts.{last_here}
use Rattle.canvas_client.proofs.ends.last_of.Goals as goal

pub returns-in-Some : goal.returns-in-Some
returns-in-Some g c =
    let zero_id : ObjId = record { client = 0; counter = 0 } in
    let n = length c.args.ids.now - 1 - c.loop-i.i in
    let lt : n < length c.args.ids.now = omega (arith, c.loop-i-test.true) in
    last_here c.args.view.now c.args.parent c.args.except c.args.ids.now c.requires n (get_or c.args.ids.now n zero_id) c.in-Some.pos.now
    (λ k x le inside. c.loop-i.invariant k x (omega (arith, le, c.loop-i-test.true)) inside) lt (λ x. get_or_default c.args.ids.now n x zero_id lt) c.in-Some.ensures.some
