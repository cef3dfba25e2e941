use Rattle.std.proofs.Common.{refl, sym, ap}
use Rattle.canvas_model.specs.Change as change
use Rattle.canvas_client.specs.Placed.{Create}
use Rattle.canvas_client.proofs.AtPlaces.{as_created, makes_of}
use Rattle.canvas_client.proofs.client.Client.new_id_at.Goals as goal

pub returns-in-Err-clause-err : goal.returns-in-Err-clause-err
returns-in-Err-clause-err g c =
    let same = as_created c.create-request.result c.args.kind (record { parent = c.place.inside.parent; pos = c.place.inside.pos }) c.args.place.now c.create-request.ensures c.place.view_is in
    c.in-Err.ensures.err (Create c.args.kind c.args.place.now) (sym same) refl

pub returns-clause-ok : goal.returns-clause-ok
returns-clause-ok g c =
    let same = as_created c.create-request.result c.args.kind (record { parent = c.place.inside.parent; pos = c.place.inside.pos }) c.args.place.now c.create-request.ensures c.place.view_is in
    makes_of c.args.self.now (Create c.args.kind c.args.place.now) c.create-request.result same c.in-Ok.ensures.none c.in-Ok.ensures.free (λ b. c.in-Some.ensures.some.0 b.1)
    (λ e. let t = c.is_full.ensures.1 e in let f = c.if-is_full.false in absurd (cc)) c.in-Ok.client
    (change.Create (record { client = c.in-Ok.client; counter = c.in-Some.counter }) c.args.kind c.args.place.now) c.in-Ok.ensures.id
    (ap (λ n. change.Create (record { client = c.in-Ok.client; counter = n }) c.args.kind c.args.place.now) c.in-Some.ensures.some.1)
