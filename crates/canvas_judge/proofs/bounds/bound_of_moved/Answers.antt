use Rattle.std.proofs.Common.{◌≤◌, ◌-◌, ℕ, arith}
use Rattle.canvas_model.specs.declared.ObjId.{ObjId}
use Rattle.canvas_model.specs.Chain as chain
use Rattle.canvas_model.specs.Depth.{LiesBelow, depth_limit}
use Rattle.canvas_model.proofs.Depths.{steps_below}
use Rattle.canvas_doc.proofs.Levels.{root_alive}
use Rattle.canvas_judge.proofs.Bounding.{low_within, moved_bound, walked_bound}
use Rattle.canvas_judge.proofs.bounds.bound_of_moved.Goals as goal

pub height-requires : goal.height-requires
height-requires g c = steps_below c.in-Some.ensures

pub height-requires-2 : goal.height-requires-2
height-requires-2 g c = chain.itself (root_alive c.args.doc.now c.objects-objects.ensures.document)

pub returns-then-new-old : goal.returns-then-new-old
returns-then-new-old g c =
    let low : (q : ObjId) (n : ℕ) → LiesBelow c.args.doc.now n q c.args.id → n ≤ c.args.bound - c.in-Some.old =
    λ q n b. (let deep = low_within c.args.doc.now c.args.bound c.in-Some.old n c.args.id q c.requires c.in-Some.ensures b in omega (arith, deep)) in
    let stands = c.requires.within c.args.id c.in-Some.old c.in-Some.ensures in
    moved_bound c.args.doc.now c.args.bound c.in-Some-depth.new (c.args.bound - c.in-Some.old) c.args.bound c.args.id c.args.parent c.objects-objects.ensures.document c.requires c.in-Some-depth.ensures low
    (omega arith) (omega (arith, stands, c.if-new-old.true)) c.requires.few

pub returns-then-lowest-new : goal.returns-then-lowest-new
returns-then-lowest-new g c =
    moved_bound c.args.doc.now c.args.bound c.in-Some-depth.new c.lowest_below-lowest.result c.larger.result c.args.id c.args.parent c.objects-objects.ensures.document c.requires c.in-Some-depth.ensures c.lowest_below-lowest.ensures
    c.larger.ensures.first c.larger.ensures.second (c.larger.ensures.most depth_limit c.requires.few (omega (arith, c.if-lowest-new.true, c.if-new-ge-DEPTH_LIMIT.false)))

pub returns : goal.returns
returns g c =
    walked_bound c.args.doc.now c.args.bound c.in_ok-deepest.deepest c.in_ok-below.below c.in-Some-depth.new c.larger-2.result c.args.id c.args.parent c.objects-objects.ensures.document c.requires c.in-Some-depth.ensures
    c.in_ok-deepest.ensures c.in_ok-below.ensures c.larger-2.ensures.first c.larger-2.ensures.second
    (λ short. c.larger-2.ensures.most depth_limit short (omega (arith, c.if-below-new.false, c.if-new-ge-DEPTH_LIMIT.false)))
