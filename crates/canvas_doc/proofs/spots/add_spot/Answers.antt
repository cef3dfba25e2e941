use Rattle.std.proofs.Common.{◌∙◌, rules, ap, subst}
use Rattle.std.specs.List.{insert}
use Rattle.std.specs.FinMap as map
use Rattle.std.proofs.lemmas.Result.{on_ok_weaker}
use Rattle.canvas_blocks.specs.Blocks.{IsEdge}
use Rattle.canvas_model.specs.Ids.{id_cmp}
use Rattle.canvas_model.specs.Document.{Place, place_of}
use Rattle.canvas_doc.specs.Spots.{IsCut}
use Rattle.canvas_doc.proofs.Cuts.{Answers, cut_told}
use Rattle.canvas_doc.proofs.spots.add_spot.Goals as goal

pub returns-clause-ok : goal.returns-clause-ok
returns-clause-ok g c =
    let rows = c.args.rows.now in
    let spots = c.args.spots.now in
    let s : Place = record { parent = c.place.inside.parent; pos = c.place.inside.pos } in
    let digits = c.first_digits-digits.result in
    on_ok_weaker c.insert_at_edge.result (λ at.
    let edge : IsEdge (Answers rows c.requires.sorted c.requires.known spots c.requires.spots digits s.parent s.pos c.args.id c.first_digits-digits.ensures at.0) spots at.0 = record {
      within = at.1.within;
      before = λ d lt. let called = at.1.before d lt in search rules;
      after = λ d lt. let called = at.1.after d lt in search rules;
    } in
    let cut = cut_told rows c.requires.sorted c.requires.known spots c.requires.spots digits s.parent s.pos c.args.id c.first_digits-digits.ensures at.0 edge in
    (at.0, subst (λ (p : Place). IsCut (place_of (map.from_sorted {R = id_cmp} rows)) p.parent p.pos c.args.id spots at.0) c.place.view_is cut, at.2 ∙ ap (insert spots at.0) c.new.ensures)) c.insert_at_edge.ensures.ok
