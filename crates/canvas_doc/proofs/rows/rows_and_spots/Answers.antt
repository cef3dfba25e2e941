use Rattle.std.proofs.Common.{◌∙◌, ◌++◌, ◌∷◌, [], T, All, sym, ap, subst, append_assoc, append-nil, arith}
use Rattle.std.specs.Vec.Iter.{into_iter_items}
use Rattle.std.specs.FinMap as map
use Rattle.canvas_model.specs.Ids.{id_cmp}
use Rattle.canvas_model.specs.Document.{place_of}
use Rattle.canvas_doc.specs.Spots.{AreSpots}
use Rattle.canvas_doc.proofs.Maps.{ids_total}
use Rattle.canvas_doc.proofs.Searched.{front_sorted}
use Rattle.canvas_doc.specs.Known.{IsRow}
use Rattle.canvas_doc.proofs.Appended.{all_front, no_spots, nothing_left}
use Rattle.canvas_doc.proofs.rows.rows_and_spots.Goals as goal

pub loop-id-init : goal.loop-id-init
loop-id-init g c = (
  ap (λ l. l ++ into_iter_items c.into_iter-id-iterator.result) c.new-rows.ensures,
  no_spots c.new-rows.result c.new-spots.result c.new-rows.ensures c.new-spots.ensures,
  c.into_iter-id-iterator.ensures.into_iter_gives.1 ∙ c.args.objects.ok.0 ∙ ap Rattle.std.specs.Prelude.length (sym c.into_iter-id-iterator.ensures.into_iter_gives.0),
)

pub append-requires-clause-sorted : goal.append-requires-clause-sorted
append-requires-clause-sorted g c =
    let at = c.loop-id in
    let steps = c.in-Some.ensures.steps.0 in
    let all = append_assoc at.rows ((c.in-Some.id, c.in-Some.object) ∷ []) (into_iter_items c.next.new.self) ∙ ap (λ l. at.rows ++ l) (sym steps) ∙ at.invariant.0 ∙ c.into_iter-id-iterator.ensures.into_iter_gives.0 in
    front_sorted ids_total (at.rows ++ (c.in-Some.id, c.in-Some.object) ∷ []) (into_iter_items c.next.new.self) (subst (λ es. T (map.is_sorted id_cmp es)) (sym all) c.requires.sorted)

pub append-requires-clause-known : goal.append-requires-clause-known
append-requires-clause-known g c =
    let at = c.loop-id in
    all_front IsRow at.rows (into_iter_items at.id-iterator) (subst (All IsRow) (sym (at.invariant.0 ∙ c.into_iter-id-iterator.ensures.into_iter_gives.0)) c.requires.known)

pub append-requires-clause-spots : goal.append-requires-clause-spots
append-requires-clause-spots g c = c.loop-id.invariant.1

pub loop-id-preserved : goal.loop-id-preserved
loop-id-preserved g c =
    let at = c.loop-id in
    let steps = c.in-Some.ensures.steps.0 in
    let new = c.in_ok-append.ensures.rows in (
      ap (λ l. l ++ into_iter_items c.next.new.self) new ∙ append_assoc at.rows ((c.in-Some.id, c.in-Some.object) ∷ []) (into_iter_items c.next.new.self) ∙ ap (λ l. at.rows ++ l) (sym steps) ∙ at.invariant.0,
      subst (λ es. AreSpots (place_of (map.from_sorted {R = id_cmp} es)) c.append.new.spots) (sym new) c.in_ok-append.ensures.spots,
      let was = at.invariant.2 in
          let gone = c.in-Some.ensures.steps.1 in
          let short = ap Rattle.std.specs.Prelude.length steps in
          omega arith,
    )

pub returns-clause-rows : goal.returns-clause-rows
returns-clause-rows g c =
    let at = c.loop-id in
    let empty = nothing_left (into_iter_items at.id-iterator) (sym at.invariant.2 ∙ c.in-None.ensures.steps.0) in
    sym (append-nil at.rows) ∙ ap (λ l. at.rows ++ l) (sym empty) ∙ at.invariant.0 ∙ c.into_iter-id-iterator.ensures.into_iter_gives.0

pub returns-clause-spots : goal.returns-clause-spots
returns-clause-spots g c =
    let at = c.loop-id in
    let empty = nothing_left (into_iter_items at.id-iterator) (sym at.invariant.2 ∙ c.in-None.ensures.steps.0) in
    subst (λ es. AreSpots (place_of (map.from_sorted {R = id_cmp} es)) at.spots) (sym (append-nil at.rows) ∙ ap (λ l. at.rows ++ l) (sym empty) ∙ at.invariant.0 ∙ c.into_iter-id-iterator.ensures.into_iter_gives.0) at.invariant.1
