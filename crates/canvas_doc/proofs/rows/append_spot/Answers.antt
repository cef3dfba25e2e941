use Rattle.std.proofs.Common.{◌++◌, ◌∷◌, [], refl, sym, subst}
use Rattle.std.specs.FinMap as map
use Rattle.std.proofs.lemmas.Result.{on_ok_weaker}
use Rattle.canvas_model.specs.Document.{place_of}
use Rattle.canvas_doc.specs.Spots.{AreSpots}
use Rattle.canvas_doc.proofs.Known.{rows_found}
use Rattle.canvas_doc.proofs.Maps.{ids_total}
use Rattle.canvas_doc.proofs.Searched.{front_sorted}
use Rattle.canvas_doc.proofs.Appended.{spot_more, spots_stay}
use Rattle.canvas_doc.proofs.rows.append_spot.Goals as goal

pub add_spot-requires-clause-sorted : goal.add_spot-requires-clause-sorted
add_spot-requires-clause-sorted g c = front_sorted ids_total c.args.rows.now ((c.args.id, c.args.object.now) ∷ []) c.requires.sorted

pub add_spot-requires-clause-known : goal.add_spot-requires-clause-known
add_spot-requires-clause-known g c = rows_found c.args.rows.now (front_sorted ids_total c.args.rows.now ((c.args.id, c.args.object.now) ∷ []) c.requires.sorted) c.requires.known

pub add_spot-requires-clause-spots : goal.add_spot-requires-clause-spots
add_spot-requires-clause-spots g c = λ s inside. (c.requires.spots.each s).0 inside

pub returns-in-Some : goal.returns-in-Some
returns-in-Some g c =
    on_ok_weaker c.add_spot.result (λ at. subst (AreSpots (place_of (map.from_sorted (c.args.rows.now ++ (c.args.id, c.args.object.now) ∷ [])))) (sym at.2)
    (spot_more c.args.rows.now (c.args.rows.now ++ (c.args.id, c.args.object.now) ∷ []) c.args.id c.args.object.now c.requires.sorted refl c.args.spots.now c.requires.spots c.in-Some.place.now (sym c.in-Some.ensures) at.0 at.1)) c.add_spot.ensures.ok

pub returns-in-None : goal.returns-in-None
returns-in-None g c = spots_stay c.args.rows.now (c.args.rows.now ++ (c.args.id, c.args.object.now) ∷ []) c.args.id c.args.object.now c.requires.sorted refl c.args.spots.now c.requires.spots (sym c.in-None.ensures)
