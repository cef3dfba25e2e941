use Rattle.std.proofs.Common.{◌∙◌, refl, ap, subst, arith}
use Rattle.std.specs.Option.{option_map}
use Rattle.std.specs.FinMap as map
use Rattle.canvas_model.specs.Document.{IsDocument, Object, place_of, with_place}
use Rattle.canvas_doc.specs.Known.{HasObjects}
use Rattle.canvas_doc.proofs.Replaced.{back_is, back_known, back_moved, back_sorted, lives_as, not_replaced, others_stay, out_lives, out_sorted, stands_now}
use Rattle.canvas_doc.proofs.Doc.put_place.Goals as goal

pub returns-then-is_none : goal.returns-then-is_none
returns-then-is_none g c = not_replaced c.self.inside.rows c.args.self.now c.args.id c.self.invariant.sorted c.self.view_is c.object_of.result (c.object_of.ensures c.self.invariant.sorted) (with_place c.args.place) c.if-is_none.ensures

pub move_spot-requires-clause-stands : goal.move_spot-requires-clause-stands
move_spot-requires-clause-stands g c =
    let there = c.self.invariant.document.others c.args.id c.requires (lives_as c.self.inside.rows (map.from_sorted c.self.inside.rows) c.args.id c.self.invariant.sorted refl c.object_of.result (c.object_of.ensures c.self.invariant.sorted) ∙ c.if-is_none.ensures) in
    (there.0.parent, ap (option_map (λ s. s.parent)) there.1)

pub replace_row-object-requires-clause-live : goal.replace_row-object-requires-clause-live
replace_row-object-requires-clause-live g c = lives_as c.self.inside.rows (map.from_sorted c.self.inside.rows) c.args.id c.self.invariant.sorted refl c.object_of.result (c.object_of.ensures c.self.invariant.sorted) ∙ c.if-is_none.ensures

pub replace_row-requires-clause-sorted : goal.replace_row-requires-clause-sorted
replace_row-requires-clause-sorted g c = out_sorted c.self.inside.rows c.replace_row-object.new.rows c.args.id c.new-bare.result c.self.invariant.sorted c.replace_row-object.ensures.rows

pub replace_row-requires-clause-live : goal.replace_row-requires-clause-live
replace_row-requires-clause-live g c = out_lives c.self.inside.rows c.replace_row-object.new.rows c.args.id c.new-bare.result c.self.invariant.sorted c.replace_row-object.ensures.rows

pub invariant_of-self : goal.invariant_of-self
invariant_of-self g c =
    let out = c.replace_row-object.ensures.rows in
    let found = c.replace_row-object.ensures.object in
    let back = c.replace_row.ensures.rows in
    let stands = ap (λ (o : Object). o.place) c.put_place.ensures.moved in
    record {
      sorted = back_sorted c.self.inside.rows c.replace_row-object.new.rows c.args.id c.new-bare.result c.self.invariant.sorted out c.replace_row.new.rows c.args.self.now c.replace_row-object.result c.put_place.new.self c.self.view_is found back;
      document = back_moved c.self.inside.rows c.replace_row-object.new.rows c.args.id c.new-bare.result c.self.invariant.sorted out c.replace_row.new.rows c.args.self.now c.replace_row-object.result c.put_place.new.self c.self.view_is found back c.args.place stands c.requires (subst IsDocument c.self.view_is c.self.invariant.document);
      known = back_known c.self.inside.rows c.replace_row-object.new.rows c.args.id c.new-bare.result c.self.invariant.sorted out c.replace_row.new.rows c.args.self.now c.replace_row-object.result c.put_place.new.self c.self.view_is found back (omega arith, omega arith) c.put_place.ensures.known (subst HasObjects c.self.view_is c.self.invariant.known);
      spots = c.move_spot.ensures (place_of (map.from_sorted c.replace_row.new.rows))
          (others_stay c.self.inside.rows c.replace_row-object.new.rows c.args.id c.new-bare.result c.self.invariant.sorted out c.replace_row.new.rows c.args.self.now c.replace_row-object.result c.put_place.new.self c.self.view_is found back c.args.place stands)
          (stands_now c.self.inside.rows c.replace_row-object.new.rows c.args.id c.new-bare.result c.self.invariant.sorted out c.replace_row.new.rows c.args.self.now c.replace_row-object.result c.put_place.new.self c.self.view_is found back c.args.place stands);
    }

pub returns : goal.returns
returns g c = back_is c.self.inside.rows c.replace_row-object.new.rows c.args.id c.new-bare.result c.self.invariant.sorted c.replace_row-object.ensures.rows c.replace_row.new.rows c.args.self.now c.replace_row-object.result c.put_place.new.self c.self.view_is c.replace_row-object.ensures.object c.replace_row.ensures.rows (with_place c.args.place) c.put_place.ensures.moved
