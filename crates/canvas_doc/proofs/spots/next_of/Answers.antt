use Rattle.std.proofs.Common.{◌≡◌, ◌∙◌, Some, None, suc, sym, ap, subst, arith}
use Rattle.std.specs.Option.{option_copied, option_map}
use Rattle.std.specs.FinMap as map
use Rattle.canvas_model.specs.Ids.{id_cmp}
use Rattle.canvas_model.specs.Document.{place_of}
use Rattle.canvas_model.specs.Order.{IsLowEnd}
use Rattle.canvas_doc.specs.Spots.{pos_at}
use Rattle.canvas_doc.proofs.Told.{told_other, not_other}
use Rattle.canvas_doc.proofs.Standing.{rest_done, rest_step}
use Rattle.canvas_doc.proofs.Spotted.{placed}
use Rattle.canvas_doc.proofs.Nearest.{next_here, none_next, passed_first, passed_more, position_told}
use Rattle.canvas_doc.proofs.spots.next_of.Goals as goal

pub loop-spot-init : goal.loop-spot-init
loop-spot-init g c =
    let at = c.from_first-rest.ensures in
    (at.0, at.1, at.0, at.2, omega arith, (passed_first (map.from_sorted {R = id_cmp} c.args.rows.now) c.args.spots.now c.requires.spots c.args.parent (option_copied c.args.after) c.args.except at.0 at.1).0)

pub loop-spot-preserved : goal.loop-spot-preserved
loop-spot-preserved g c =
    let inv = c.loop-spot.invariant in
    let x = c.in-Some.spot.now in
    let step = rest_step c.args.spots.now c.loop-spot.rest c.next.new.self inv.2 x inv.3 c.in-Some.ensures.steps in (
      inv.0,
      inv.1,
      suc inv.2,
      step.2,
      omega arith,
      passed_more (map.from_sorted {R = id_cmp} c.args.rows.now) c.args.spots.now c.requires.spots c.args.parent (option_copied c.args.after) c.args.except inv.2 x inv.5 step.1
          (λ under other after. other (not_other x.id c.args.except c.ne-in-Some.result c.ne-in-Some.ensures c.if-ne-2.false)),
    )

pub loop-spot-preserved-else-is_after : goal.loop-spot-preserved-else-is_after
loop-spot-preserved-else-is_after g c =
    let inv = c.loop-spot.invariant in
    let x = c.in-Some.spot.now in
    let step = rest_step c.args.spots.now c.loop-spot.rest c.next.new.self inv.2 x inv.3 c.in-Some.ensures.steps in
    let at : Some c.in_ok-pos.pos.now ≡ pos_at (place_of (map.from_sorted {R = id_cmp} c.args.rows.now)) x.id = sym (ap option_copied c.in_ok-pos.was) ∙ c.pos_of.ensures c.requires.sorted in (
      inv.0,
      inv.1,
      suc inv.2,
      step.2,
      omega arith,
      passed_more (map.from_sorted {R = id_cmp} c.args.rows.now) c.args.spots.now c.requires.spots c.args.parent (option_copied c.args.after) c.args.except inv.2 x inv.5 step.1
          (λ under other after.
          let yes = c.is_after.ensures.1 (subst (IsLowEnd (option_copied c.args.after)) (position_told (place_of (map.from_sorted {R = id_cmp} c.args.rows.now) x.id) c.in_ok-pos.pos.now at) after) in
          let no = c.if-is_after.false in cc),
    )

pub returns-then-ne : goal.returns-then-ne
returns-then-ne g c =
    let inv = c.loop-spot.invariant in
    let x = c.in-Some.spot.now in
    let step = rest_step c.args.spots.now c.loop-spot.rest c.next.new.self inv.2 x inv.3 c.in-Some.ensures.steps in
    let from = (passed_first (map.from_sorted {R = id_cmp} c.args.rows.now) c.args.spots.now c.requires.spots c.args.parent (option_copied c.args.after) c.args.except inv.0 inv.1).1 in
    none_next (map.from_sorted {R = id_cmp} c.args.rows.now) c.args.spots.now c.requires.spots c.args.parent (option_copied c.args.after) c.args.except inv.2 inv.5 (λ k y low lt. from k y (omega (arith, low)) lt)
    (λ y lt same. told_other x.parent c.args.parent c.ne.result c.ne.ensures c.if-ne.true (ap (λ z. z.parent) (sym (step.1 y)) ∙ same))

pub returns-in_err-pos : goal.returns-in_err-pos
returns-in_err-pos g c =
    let inv = c.loop-spot.invariant in
    let x = c.in-Some.spot.now in
    let step = rest_step c.args.spots.now c.loop-spot.rest c.next.new.self inv.2 x inv.3 c.in-Some.ensures.steps in
    let there = placed (place_of (map.from_sorted {R = id_cmp} c.args.rows.now)) c.args.spots.now c.requires.spots x (inv.2, step.0, step.1 x) in
    absurd (let f : None ≡ Some there.0.pos = sym (ap option_copied c.in_err-pos.was) ∙ c.pos_of.ensures c.requires.sorted ∙ ap (option_map (λ s. s.pos)) there.1 in cc)

pub returns-then-is_after : goal.returns-then-is_after
returns-then-is_after g c =
    let inv = c.loop-spot.invariant in
    let x = c.in-Some.spot.now in
    let step = rest_step c.args.spots.now c.loop-spot.rest c.next.new.self inv.2 x inv.3 c.in-Some.ensures.steps in
    let at : Some c.in_ok-pos.pos.now ≡ pos_at (place_of (map.from_sorted {R = id_cmp} c.args.rows.now)) x.id = sym (ap option_copied c.in_ok-pos.was) ∙ c.pos_of.ensures c.requires.sorted in
    next_here (map.from_sorted {R = id_cmp} c.args.rows.now) c.args.spots.now c.requires.spots c.args.parent (option_copied c.args.after) c.args.except inv.2 x c.in_ok-pos.pos.now inv.5 step.0 step.1
    (not_other x.parent c.args.parent c.ne.result c.ne.ensures c.if-ne.false) (told_other x.id c.args.except c.ne-in-Some.result c.ne-in-Some.ensures c.if-ne-2.true) at (c.is_after.ensures.0 c.if-is_after.true)

pub returns : goal.returns
returns g c =
    let inv = c.loop-spot.invariant in
    let past = rest_done c.args.spots.now c.loop-spot.rest inv.2 inv.3 c.in_default.ensures.steps.0 in
    let from = (passed_first (map.from_sorted {R = id_cmp} c.args.rows.now) c.args.spots.now c.requires.spots c.args.parent (option_copied c.args.after) c.args.except inv.0 inv.1).1 in
    none_next (map.from_sorted {R = id_cmp} c.args.rows.now) c.args.spots.now c.requires.spots c.args.parent (option_copied c.args.after) c.args.except inv.2 inv.5 (λ k y low lt. from k y (omega (arith, low)) lt) (λ y lt same. omega (arith, past))
