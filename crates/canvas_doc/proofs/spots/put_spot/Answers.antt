use Rattle.std.proofs.Common.{sym, subst}
use Rattle.std.specs.FinMap as map
use Rattle.std.proofs.lemmas.Result.{on_ok_weaker}
use Rattle.canvas_model.specs.Ids.{id_cmp}
use Rattle.canvas_model.specs.Document.{place_of}
use Rattle.canvas_doc.specs.Spots.{AreSpots}
use Rattle.canvas_doc.proofs.Cuts.{none_put, others_spots, spot_put}
use Rattle.canvas_doc.proofs.spots.put_spot.Goals as goal

pub add_spot-requires-clause-spots : goal.add_spot-requires-clause-spots
add_spot-requires-clause-spots g c = others_spots (map.from_sorted {R = id_cmp} c.args.rows.now) c.args.id c.args.spots.now c.requires.spots

pub returns-in-Some-clause-ok : goal.returns-in-Some-clause-ok
returns-in-Some-clause-ok g c =
    let d = map.from_sorted {R = id_cmp} c.args.rows.now in
    on_ok_weaker c.add_spot.result (λ at. subst (AreSpots (place_of d)) (sym at.2)
    (spot_put d c.args.id c.args.spots.now c.requires.spots c.in-Some.place.now (sym (c.in-Some.ensures c.requires.sorted)) at.0 at.1)) c.add_spot.ensures.ok

pub returns-in-None-clause-ok : goal.returns-in-None-clause-ok
returns-in-None-clause-ok g c = none_put (map.from_sorted {R = id_cmp} c.args.rows.now) c.args.id c.args.spots.now c.requires.spots (sym (c.in-None.ensures c.requires.sorted))
