use Rattle.std.proofs.Common.{◌∙◌, refl, subst, arith}
use Rattle.std.specs.FinMap as map
use Rattle.std.proofs.lemmas.Result.{on_err_weaker, on_ok_weaker}
use Rattle.canvas_model.specs.Document.{IsDocument, with_prop}
use Rattle.canvas_doc.specs.Known.{HasObjects}
use Rattle.canvas_doc.proofs.Replaced.{back_document, back_is, back_known, back_same, back_sorted, back_spots, kind_stays, lives_as, not_replaced, out_lives, out_sorted, place_stays}
use Rattle.canvas_doc.proofs.Doc.put_prop.Goals as goal

pub returns-then-is_none-clause-ok : goal.returns-then-is_none-clause-ok
returns-then-is_none-clause-ok g c = not_replaced c.self.inside.rows c.args.self.now c.args.id c.self.invariant.sorted c.self.view_is c.object_of.result (c.object_of.ensures c.self.invariant.sorted) (with_prop c.args.name c.args.value) c.if-is_none.ensures

pub replace_row-object-requires-clause-live : goal.replace_row-object-requires-clause-live
replace_row-object-requires-clause-live g c = lives_as c.self.inside.rows (map.from_sorted c.self.inside.rows) c.args.id c.self.invariant.sorted refl c.object_of.result (c.object_of.ensures c.self.invariant.sorted) ∙ c.if-is_none.ensures

pub replace_row-requires-clause-sorted : goal.replace_row-requires-clause-sorted
replace_row-requires-clause-sorted g c = out_sorted c.self.inside.rows c.replace_row-object.new.rows c.args.id c.new-bare.result c.self.invariant.sorted c.replace_row-object.ensures.rows

pub replace_row-requires-clause-live : goal.replace_row-requires-clause-live
replace_row-requires-clause-live g c = out_lives c.self.inside.rows c.replace_row-object.new.rows c.args.id c.new-bare.result c.self.invariant.sorted c.replace_row-object.ensures.rows

pub invariant_of-self : goal.invariant_of-self
invariant_of-self g c =
    let out = c.replace_row-object.ensures.rows in
    let found = c.replace_row-object.ensures.object in
    let back = c.replace_row.ensures.rows in
    let kind = kind_stays c.args.name c.args.value c.replace_row-object.result c.put_prop-done.new.self c.put_prop-done.result c.put_prop-done.ensures.ok c.put_prop-done.ensures.err in
    let place = place_stays c.args.name c.args.value c.replace_row-object.result c.put_prop-done.new.self c.put_prop-done.result c.put_prop-done.ensures.ok c.put_prop-done.ensures.err in
    record {
      sorted = back_sorted c.self.inside.rows c.replace_row-object.new.rows c.args.id c.new-bare.result c.self.invariant.sorted out c.replace_row.new.rows c.args.self.now c.replace_row-object.result c.put_prop-done.new.self c.self.view_is found back;
      document = back_document c.self.inside.rows c.replace_row-object.new.rows c.args.id c.new-bare.result c.self.invariant.sorted out c.replace_row.new.rows c.args.self.now c.replace_row-object.result c.put_prop-done.new.self c.self.view_is found back kind place (subst IsDocument c.self.view_is c.self.invariant.document);
      known = back_known c.self.inside.rows c.replace_row-object.new.rows c.args.id c.new-bare.result c.self.invariant.sorted out c.replace_row.new.rows c.args.self.now c.replace_row-object.result c.put_prop-done.new.self c.self.view_is found back (omega arith, omega arith) c.put_prop-done.ensures.known (subst HasObjects c.self.view_is c.self.invariant.known);
      spots = back_spots c.self.inside.rows c.replace_row-object.new.rows c.args.id c.new-bare.result c.self.invariant.sorted out c.replace_row.new.rows c.args.self.now c.replace_row-object.result c.put_prop-done.new.self c.self.view_is found back kind place c.self.inside.spots c.self.invariant.spots;
    }

pub returns-clause-ok : goal.returns-clause-ok
returns-clause-ok g c = on_ok_weaker c.put_prop-done.result (λ is.
    back_is c.self.inside.rows c.replace_row-object.new.rows c.args.id c.new-bare.result c.self.invariant.sorted c.replace_row-object.ensures.rows c.replace_row.new.rows c.args.self.now c.replace_row-object.result c.put_prop-done.new.self c.self.view_is c.replace_row-object.ensures.object c.replace_row.ensures.rows
    (with_prop c.args.name c.args.value) is) c.put_prop-done.ensures.ok

pub returns-clause-err : goal.returns-clause-err
returns-clause-err g c = on_err_weaker c.put_prop-done.result (λ is.
    back_same c.self.inside.rows c.replace_row-object.new.rows c.args.id c.new-bare.result c.self.invariant.sorted c.replace_row-object.ensures.rows c.replace_row.new.rows c.args.self.now c.replace_row-object.result c.put_prop-done.new.self c.self.view_is c.replace_row-object.ensures.object c.replace_row.ensures.rows is) c.put_prop-done.ensures.err
