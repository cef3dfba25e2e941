use Rattle.std.proofs.Common.{◌≡◌, ◌∙◌, Some, rules, sym, ap, subst}
use Rattle.std.specs.FinMap as map
use Rattle.canvas_blocks.specs.Blocks.{IsEdge, moved}
use Rattle.canvas_model.specs.Ids.{id_cmp}
use Rattle.canvas_model.specs.Document.{Place, place_of}
use Rattle.canvas_doc.specs.Spots.{AreSpots, new_spot}
use Rattle.canvas_doc.proofs.Cuts.{Answers, cut_told, spot_moved}
use Rattle.canvas_doc.proofs.spots.move_spot.Goals as goal

pub returns-in-Some : goal.returns-in-Some
returns-in-Some g c p others stands =
    let d = map.from_sorted {R = id_cmp} c.args.rows.now in
    let o : Place = record { parent = c.old.inside.parent; pos = c.old.inside.pos } in
    let s : Place = record { parent = c.place.inside.parent; pos = c.place.inside.pos } in
    let stood : place_of d c.args.id ≡ Some o = sym (c.in-Some.ensures c.requires.sorted) ∙ ap Some (sym c.old.view_is) in
    let at = c.move_to_edge.ensures in
    let from_edge : IsEdge (Answers c.args.rows.now c.requires.sorted c.requires.known c.args.spots.now (λ s. (c.requires.spots.each s).0) c.first_digits-old_digits.result o.parent o.pos c.args.id c.first_digits-old_digits.ensures at.0) c.args.spots.now at.0 = record {
      within = at.2.within;
      before = λ d lt. let called = at.2.before d lt in search rules;
      after = λ d lt. let called = at.2.after d lt in search rules;
    } in
    let to_edge : IsEdge (Answers c.args.rows.now c.requires.sorted c.requires.known c.args.spots.now (λ s. (c.requires.spots.each s).0) c.first_digits-digits.result s.parent s.pos c.args.id c.first_digits-digits.ensures at.1) c.args.spots.now at.1 = record {
      within = at.3.within;
      before = λ d lt. let called = at.3.before d lt in search rules;
      after = λ d lt. let called = at.3.after d lt in search rules;
    } in
    let from = cut_told c.args.rows.now c.requires.sorted c.requires.known c.args.spots.now (λ s. (c.requires.spots.each s).0) c.first_digits-old_digits.result o.parent o.pos c.args.id c.first_digits-old_digits.ensures at.0 from_edge in
    let to = cut_told c.args.rows.now c.requires.sorted c.requires.known c.args.spots.now (λ s. (c.requires.spots.each s).0) c.first_digits-digits.result s.parent s.pos c.args.id c.first_digits-digits.ensures at.1 to_edge in
    subst (AreSpots p) (sym {a = c.move_to_edge.new.self} (at.4 ∙ ap (moved c.args.spots.now at.0 at.1) (c.new.ensures ∙ ap (new_spot c.args.id) (sym c.place.view_is))))
    (spot_moved (place_of d) p c.args.spots.now c.requires.spots c.args.id others o s stood (stands ∙ ap Some (sym c.place.view_is)) at.0 at.1 from to)
