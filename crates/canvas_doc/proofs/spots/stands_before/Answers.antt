use Rattle.std.proofs.Common.{◌≡◌, rules, subst}
use Rattle.std.specs.Ordering.{nat_cmp, ordering_then}
use Rattle.std.specs.declared.cmp.Ordering.TheVariants.{Less, Greater}
use Rattle.std.specs.FinMap as map
use Rattle.canvas_model.specs.Ids.{id_cmp}
use Rattle.canvas_model.specs.Document.{place_of}
use Rattle.canvas_doc.proofs.Digits.{before_less, before_more, known_position}
use Rattle.canvas_doc.proofs.Spotted.{spot_is}
use Rattle.canvas_doc.proofs.spots.stands_before.Goals as goal

pub returns-in-Less : goal.returns-in-Less
returns-in-Less g c sorted known digits at =
    let d = map.from_sorted {R = id_cmp} c.args.rows.now in
    let s = c.args.spot.now in
    let there = spot_is (place_of d) s at in
    let less : ordering_then (id_cmp c.args.spot.now.parent c.args.parent) (nat_cmp c.args.spot.now.digits c.args.digits) ≡ Less = search rules in
    before_less (place_of d) c.args.parent c.args.pos.now c.args.id s there.0 there.1 there.2 (known_position d known s.id there.0 there.1) c.bytes-pos.ensures.position c.digit_order.ensures
    (subst (λ n. ordering_then (id_cmp c.args.spot.now.parent c.args.parent) (nat_cmp c.args.spot.now.digits n) ≡ Less) digits less)

pub returns-in-Greater : goal.returns-in-Greater
returns-in-Greater g c sorted known digits at =
    let d = map.from_sorted {R = id_cmp} c.args.rows.now in
    let s = c.args.spot.now in
    let there = spot_is (place_of d) s at in
    let more : ordering_then (id_cmp c.args.spot.now.parent c.args.parent) (nat_cmp c.args.spot.now.digits c.args.digits) ≡ Greater = search rules in
    before_more (place_of d) c.args.parent c.args.pos.now c.args.id s there.0 there.1 there.2 (known_position d known s.id there.0 there.1) c.bytes-pos.ensures.position c.digit_order.ensures
    (subst (λ n. ordering_then (id_cmp c.args.spot.now.parent c.args.parent) (nat_cmp c.args.spot.now.digits n) ≡ Greater) digits more)
