use Rattle.std.proofs.Common.{◌∙◌, refl, sym, subst}
use Rattle.std.specs.FinMap as map
use Rattle.canvas_model.specs.Document.{IsDocument, place_of}
use Rattle.canvas_model.proofs.Ids.{dead_none}
use Rattle.canvas_doc.specs.Known.{HasObjects}
use Rattle.canvas_doc.specs.Spots.{AreSpots}
use Rattle.canvas_doc.proofs.Maps.{exact_ids, ids_total}
use Rattle.canvas_doc.proofs.Kept.{nothing_removed}
use Rattle.canvas_doc.proofs.Revised.{removed_sorted, removed_doc, removed_document, removed_known}
use Rattle.canvas_doc.proofs.Doc.remove.Goals as goal

pub invariant_of-self : goal.invariant_of-self
invariant_of-self g c = record {
  sorted = removed_sorted c.self.inside.rows c.take_row.new.rows c.args.self.now c.args.id c.self.invariant.sorted c.self.view_is c.take_row.ensures;
  document = removed_document c.self.inside.rows c.take_row.new.rows c.args.self.now c.args.id c.self.invariant.sorted c.self.view_is c.take_row.ensures c.requires (subst IsDocument c.self.view_is c.self.invariant.document);
  known = removed_known c.self.inside.rows c.take_row.new.rows c.args.self.now c.args.id c.self.invariant.sorted c.self.view_is c.take_row.ensures (subst HasObjects c.self.view_is c.self.invariant.known);
  spots = subst (λ d. AreSpots (place_of d) c.take_spot.new.spots) (sym (removed_doc c.self.inside.rows c.take_row.new.rows (map.from_sorted c.self.inside.rows) c.args.id c.self.invariant.sorted refl c.take_row.ensures)) c.take_spot.ensures;
}

pub returns-then-has : goal.returns-then-has
returns-then-has g c = removed_doc c.self.inside.rows c.take_row.new.rows c.args.self.now c.args.id c.self.invariant.sorted c.self.view_is c.take_row.ensures

pub returns-else-has : goal.returns-else-has
returns-else-has g c = nothing_removed ids_total exact_ids c.args.self.now c.args.id (dead_none c.args.self.now c.args.id (sym c.has.ensures ∙ c.if-has.false))
