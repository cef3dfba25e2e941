use Rattle.std.proofs.Common.{All, T, ap, sym, subst, ◌∙◌}
use Rattle.std.specs.FinMap as map
use Rattle.canvas_model.specs.Ids.{id_cmp}
use Rattle.canvas_model.specs.Document.{IsDocument, place_of}
use Rattle.canvas_doc.specs.Known.{HasObjects, IsRow}
use Rattle.canvas_doc.specs.Spots.{AreSpots}
use Rattle.canvas_doc.proofs.Known.{rows_found}
use Rattle.canvas_doc.proofs.Doc.from_objects.Goals as goal

pub rows_and_spots-requires-clause-known : goal.rows_and_spots-requires-clause-known
rows_and_spots-requires-clause-known g c = subst (All IsRow) c.deref-2.ensures.value c.know_rows.ensures

pub rows_and_spots-requires-clause-sorted : goal.rows_and_spots-requires-clause-sorted
rows_and_spots-requires-clause-sorted g c = subst (λ es. T (map.is_sorted id_cmp es)) c.deref.ensures.value (c.is_document.ensures.0 c.if-not-is_document.false).sorted

pub returns-clause-some : goal.returns-clause-some
returns-clause-some g c = ap map.from_sorted c.in_ok-rows.ensures.rows

pub returns-clause-entries : goal.returns-clause-entries
returns-clause-entries g c =
    let sorted = subst (λ es. T (map.is_sorted id_cmp es)) c.deref.ensures.value (c.is_document.ensures.0 c.if-not-is_document.false).sorted in
    ap (λ es. map.entries (map.from_sorted {R = id_cmp} es)) c.in_ok-rows.ensures.rows ∙ map.entries-from_sorted id_cmp c.args.objects.items sorted

pub invariant_of-result : goal.invariant_of-result
invariant_of-result g c =
    let are = c.is_document.ensures.0 c.if-not-is_document.false in
    let sorted = subst (λ es. T (map.is_sorted id_cmp es)) c.deref.ensures.value are.sorted in
    let same = sym c.in_ok-rows.ensures.rows in
    record {
      sorted = subst (λ es. T (map.is_sorted id_cmp es)) same sorted;
      document = subst (λ es. IsDocument (map.from_sorted {R = id_cmp} es)) same (subst (λ es. IsDocument (map.from_sorted {R = id_cmp} es)) c.deref.ensures.value are.document);
      known = subst (λ es. HasObjects (map.from_sorted {R = id_cmp} es)) same (rows_found _ sorted (subst (All IsRow) c.deref-2.ensures.value c.know_rows.ensures));
      spots = subst (λ es. AreSpots (place_of (map.from_sorted {R = id_cmp} es)) c.in_ok-rows.spots) same c.in_ok-rows.ensures.spots;
    }
