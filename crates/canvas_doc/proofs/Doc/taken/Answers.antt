use Rattle.std.proofs.Common.{◌≡◌, ◌∙◌, suc, true, false, refl, sym, ap, arith}
use Rattle.std.specs.FinMap as map
use Rattle.canvas_model.specs.Document.{place_of}
use Rattle.canvas_doc.specs.Spots.{pos_at}
use Rattle.canvas_doc.proofs.Told.{told_other, not_other}
use Rattle.canvas_doc.proofs.Standing.{none_stands, pass_more, rest_done, rest_step, stands_at}
use Rattle.canvas_doc.proofs.Doc.taken.Goals as goal

pub loop-spot-init : goal.loop-spot-init
loop-spot-init g c =
    let at = c.from_cut-rest.ensures in
    (at.0, at.1, at.0, at.2, omega arith, λ k d low lt. absurd (omega arith))

pub loop-spot-preserved : goal.loop-spot-preserved
loop-spot-preserved g c =
    let inv = c.loop-spot.invariant in
    let x = c.in-Some.spot.now in
    let step = rest_step c.self.inside.spots c.loop-spot.rest c.next.new.self inv.2 x inv.3 c.in-Some.ensures.steps in
    (inv.0, inv.1, suc inv.2, step.2, omega arith, pass_more (λ s. s.id ≡ c.args.except) c.self.inside.spots inv.0 inv.2 x inv.5 step.1 (not_other x.id c.args.except c.ne.result c.ne.ensures c.if-ne.false))

pub returns-then-not-stands_there : goal.returns-then-not-stands_there
returns-then-not-stands_there g c =
    let inv = c.loop-spot.invariant in
    let x = c.in-Some.spot.now in
    let step = rest_step c.self.inside.spots c.loop-spot.rest c.next.new.self inv.2 x inv.3 c.in-Some.ensures.steps in (
      λ t. absurd (let f : false ≡ true = t in cc),
      λ taken. absurd (none_stands (place_of (map.from_sorted c.self.inside.rows)) c.self.inside.spots c.self.invariant.spots c.args.parent c.args.pos.now c.args.except inv.0 inv.2 inv.1 inv.4 inv.5 (λ d lt named at.
          let yes = (c.stands_there.ensures c.self.invariant.sorted).1 (ap (λ s. s.parent) (sym (step.1 d)) ∙ named, ap (λ s. pos_at (place_of (map.from_sorted c.self.inside.rows)) s.id) (sym (step.1 d)) ∙ at) in
          let no = c.if-not-stands_there.true in cc) taken.0 taken.1.0 (ap (λ d. place_of d taken.0) c.self.view_is ∙ taken.1.1)),
    )

pub returns-then-ne : goal.returns-then-ne
returns-then-ne g c =
    let inv = c.loop-spot.invariant in
    let x = c.in-Some.spot.now in
    let step = rest_step c.self.inside.spots c.loop-spot.rest c.next.new.self inv.2 x inv.3 c.in-Some.ensures.steps in
    let there = (c.stands_there.ensures c.self.invariant.sorted).0 c.if-not-stands_there.false in (
      λ _. (
        x.id,
        (
          told_other x.id c.args.except c.ne.result c.ne.ensures c.if-ne.true,
          sym (ap (λ d. place_of d x.id) c.self.view_is) ∙ stands_at (place_of (map.from_sorted c.self.inside.rows)) c.self.inside.spots c.self.invariant.spots x c.args.parent c.args.pos.now (inv.2, step.0, step.1 x) there.0 there.1,
        ),
      ),
      λ _. refl,
    )

pub returns : goal.returns
returns g c =
    let inv = c.loop-spot.invariant in
    let past = rest_done c.self.inside.spots c.loop-spot.rest inv.2 inv.3 c.in_default.ensures.steps.0 in (
      λ t. absurd (let f : false ≡ true = t in cc),
      λ taken. absurd (none_stands (place_of (map.from_sorted c.self.inside.rows)) c.self.inside.spots c.self.invariant.spots c.args.parent c.args.pos.now c.args.except inv.0 inv.2 inv.1 inv.4 inv.5 (λ d lt named at. omega (arith, past)) taken.0 taken.1.0 (ap (λ d. place_of d taken.0) c.self.view_is ∙ taken.1.1)),
    )
