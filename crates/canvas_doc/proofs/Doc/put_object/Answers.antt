use Rattle.std.proofs.Common.{◌≡◌, ◌∙◌, T, true, false, Result, Ok, Err, rules, sym, ap, subst, arith}
use Rattle.std.specs.Result.{is_err, IfErr}
use Rattle.std.specs.FinMap as map
use Rattle.canvas_model.specs.Ids.{id_cmp}
use Rattle.canvas_model.specs.Document.{IsDocument, place_of}
use Rattle.canvas_model.proofs.Ids.{dead_none}
use Rattle.canvas_doc.specs.Known.{HasObjects}
use Rattle.canvas_doc.specs.Spots.{AreSpots}
use Rattle.canvas_doc.proofs.Rooted.{more_sorted, more_inserted, more_document}
use Rattle.canvas_doc.proofs.Putting.{rows_back, spots_before, with_known, with_live}
use Rattle.canvas_doc.proofs.Doc.put_object.Goals as goal

refused : {T E : Type 0} (r : Result T E) (P : Type 0) → is_err r ≡ true → IfErr r (λ _. P) → P
refused (Ok v) P e h = absurd (let f : false ≡ true = e in cc)
refused (Err x) P e h = h

pub invariant_of-self : goal.invariant_of-self
invariant_of-self g c =
    let same = sym c.in_err-put_row.ensures.err in
    record {
      sorted = subst (λ es. T (map.is_sorted id_cmp es)) same c.self.invariant.sorted;
      document = subst (λ es. IsDocument (map.from_sorted es)) same c.self.invariant.document;
      known = subst (λ es. HasObjects (map.from_sorted es)) same c.self.invariant.known;
      spots = subst (λ es. AreSpots (place_of (map.from_sorted es)) c.self.inside.spots) same c.self.invariant.spots;
    }

pub put_spot-requires-clause-sorted : goal.put_spot-requires-clause-sorted
put_spot-requires-clause-sorted g c = more_sorted c.self.inside.rows c.put_row.new.rows c.args.self.now c.args.id c.args.kind c.args.place c.new.result c.self.invariant.sorted c.self.view_is c.new.ensures.object c.in_ok-put_row.ensures.ok

pub put_spot-requires-clause-known : goal.put_spot-requires-clause-known
put_spot-requires-clause-known g c =
    with_known c.self.inside.rows c.put_row.new.rows c.args.self.now c.args.id c.new.result c.self.invariant.sorted c.self.view_is (dead_none _ _ c.requires) c.in_ok-put_row.ensures.ok (omega arith, omega arith) c.new.ensures.known (subst HasObjects c.self.view_is c.self.invariant.known)

pub put_spot-requires-clause-spots : goal.put_spot-requires-clause-spots
put_spot-requires-clause-spots g c = spots_before c.self.inside.rows c.put_row.new.rows c.args.self.now c.args.id c.new.result c.self.invariant.sorted c.self.view_is (dead_none _ _ c.requires) c.in_ok-put_row.ensures.ok c.self.inside.spots c.self.invariant.spots

pub take_row-requires-clause-sorted : goal.take_row-requires-clause-sorted
take_row-requires-clause-sorted g c = more_sorted c.self.inside.rows c.put_row.new.rows c.args.self.now c.args.id c.args.kind c.args.place c.new.result c.self.invariant.sorted c.self.view_is c.new.ensures.object c.in_ok-put_row.ensures.ok

pub take_row-requires-clause-live : goal.take_row-requires-clause-live
take_row-requires-clause-live g c = with_live c.self.inside.rows c.put_row.new.rows c.args.self.now c.args.id c.new.result c.self.invariant.sorted c.self.view_is (dead_none _ _ c.requires) c.in_ok-put_row.ensures.ok

pub invariant_of-self-then-is_err : goal.invariant_of-self-then-is_err
invariant_of-self-then-is_err g c =
    let back : c.take_row.new.rows ≡ c.self.inside.rows = rows_back c.self.inside.rows c.put_row.new.rows c.args.self.now c.args.id c.new.result c.self.invariant.sorted c.self.view_is (dead_none _ _ c.requires) c.in_ok-put_row.ensures.ok c.take_row.new.rows c.take_row.ensures in
    let spots : c.put_spot.new.spots ≡ c.self.inside.spots = refused c.put_spot.result _ (sym c.is_err.ensures.value ∙ c.if-is_err.true) c.put_spot.ensures.err in
    record {
      sorted = subst (λ es. T (map.is_sorted id_cmp es)) (sym back) c.self.invariant.sorted;
      document = subst (λ es. IsDocument (map.from_sorted es)) (sym back) c.self.invariant.document;
      known = subst (λ es. HasObjects (map.from_sorted es)) (sym back) c.self.invariant.known;
      spots = subst (AreSpots (place_of (map.from_sorted c.take_row.new.rows))) (sym spots) (subst (λ es. AreSpots (place_of (map.from_sorted es)) c.self.inside.spots) (sym back) c.self.invariant.spots);
    }

pub returns-then-is_err-clause-err : goal.returns-then-is_err-clause-err
returns-then-is_err-clause-err g c =
    let back : c.take_row.new.rows ≡ c.self.inside.rows = rows_back c.self.inside.rows c.put_row.new.rows c.args.self.now c.args.id c.new.result c.self.invariant.sorted c.self.view_is (dead_none _ _ c.requires) c.in_ok-put_row.ensures.ok c.take_row.new.rows c.take_row.ensures in
    ap map.from_sorted back ∙ c.self.view_is

pub invariant_of-self-else-is_err : goal.invariant_of-self-else-is_err
invariant_of-self-else-is_err g c =
    record {
      sorted = more_sorted c.self.inside.rows c.put_row.new.rows c.args.self.now c.args.id c.args.kind c.args.place c.new.result c.self.invariant.sorted c.self.view_is c.new.ensures.object c.in_ok-put_row.ensures.ok;
      document = more_document c.self.inside.rows c.put_row.new.rows c.args.self.now c.args.id c.args.kind c.args.place c.new.result c.self.invariant.sorted c.self.view_is c.new.ensures.object c.in_ok-put_row.ensures.ok (subst IsDocument c.self.view_is c.self.invariant.document) (dead_none _ _ c.requires);
      known = with_known c.self.inside.rows c.put_row.new.rows c.args.self.now c.args.id c.new.result c.self.invariant.sorted c.self.view_is (dead_none _ _ c.requires) c.in_ok-put_row.ensures.ok (omega arith, omega arith) c.new.ensures.known (subst HasObjects c.self.view_is c.self.invariant.known);
      spots = search rules;
    }

pub returns-clause-ok : goal.returns-clause-ok
returns-clause-ok g c = more_inserted c.self.inside.rows c.put_row.new.rows c.args.self.now c.args.id c.args.kind c.args.place c.new.result c.self.invariant.sorted c.self.view_is c.new.ensures.object c.in_ok-put_row.ensures.ok
