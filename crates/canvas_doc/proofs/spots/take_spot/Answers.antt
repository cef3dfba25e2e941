use Rattle.std.proofs.Common.{◌≡◌, ◌∙◌, Some, rules, sym, ap, subst}
use Rattle.std.specs.Option.{option_copied}
use Rattle.std.specs.FinMap as map
use Rattle.canvas_blocks.specs.Blocks.{IsEdge}
use Rattle.canvas_model.specs.Ids.{id_cmp}
use Rattle.canvas_model.specs.Document.{Place, place_of}
use Rattle.canvas_doc.specs.Spots.{AreSpots}
use Rattle.canvas_doc.proofs.Cuts.{Answers, cut_told, none_taken, spot_taken}
use Rattle.canvas_doc.proofs.spots.take_spot.Goals as goal

pub returns-in-Some : goal.returns-in-Some
returns-in-Some g c =
    let d = map.from_sorted {R = id_cmp} c.args.rows.now in
    let s : Place = record { parent = c.place.inside.parent; pos = c.place.inside.pos } in
    let stands : place_of d c.args.id ≡ Some s = sym (c.in-Some.ensures c.requires.sorted) ∙ ap Some (sym c.place.view_is) in
    let at = c.remove_at_edge.ensures in
    let edge : IsEdge (Answers c.args.rows.now c.requires.sorted c.requires.known c.args.spots.now (λ s. (c.requires.spots.each s).0) c.first_digits-digits.result s.parent s.pos c.args.id c.first_digits-digits.ensures at.0) c.args.spots.now at.0 = record {
      within = at.1.within;
      before = λ d lt. let called = at.1.before d lt in search rules;
      after = λ d lt. let called = at.1.after d lt in search rules;
    } in
    let cut = cut_told c.args.rows.now c.requires.sorted c.requires.known c.args.spots.now (λ s. (c.requires.spots.each s).0) c.first_digits-digits.result s.parent s.pos c.args.id c.first_digits-digits.ensures at.0 edge in
    subst (AreSpots (place_of (map.remove d c.args.id))) (sym at.3) (spot_taken d c.args.id c.args.spots.now c.requires.spots s stands at.0 cut)

pub returns-in_default : goal.returns-in_default
returns-in_default g c = none_taken (map.from_sorted {R = id_cmp} c.args.rows.now) c.args.id c.args.spots.now c.requires.spots (sym (c.place_in.ensures c.requires.sorted) ∙ ap option_copied c.in_default.is)
