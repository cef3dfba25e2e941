use Rattle.std.proofs.Common.{refl, sym}
use Rattle.canvas_model.specs.Change as change
use Rattle.canvas_client.specs.Placed.{Move}
use Rattle.canvas_client.proofs.AtPlaces.{as_moved, makes_of}
use Rattle.canvas_client.proofs.client.Client.look_at_move.Goals as goal

pub returns-in-Err-clause-err : goal.returns-in-Err-clause-err
returns-in-Err-clause-err g c =
    let same = as_moved c.move_to-request.result c.args.id (record { parent = c.place.inside.parent; pos = c.place.inside.pos }) c.args.place.now c.move_to-request.ensures c.place.view_is in
    c.in-Err.ensures.err (Move c.args.id c.args.place.now) (sym same) refl

pub returns-clause-ok : goal.returns-clause-ok
returns-clause-ok g c =
    let same = as_moved c.move_to-request.result c.args.id (record { parent = c.place.inside.parent; pos = c.place.inside.pos }) c.args.place.now c.move_to-request.ensures c.place.view_is in
    makes_of c.args.self.now (Move c.args.id c.args.place.now) c.move_to-request.result same c.in-Ok.ensures.none c.in-Ok.ensures.free (λ b. b.0)
    (λ e. let t = c.is_full.ensures.1 e in let f = c.if-is_full.false in absurd (cc)) c.in-Ok.client (change.Move c.args.id c.args.place.now) c.in-Ok.ensures.id refl
