use Rattle.std.proofs.Common.{◌≡◌, ◌++◌, ◌∷◌, [], false, true, length, refl, arith}
use Rattle.canvas_doc.proofs.Copied.{walk_more, walk_differs, walk_ends, walk_done}
use Rattle.canvas_doc.proofs.rows.same_rows.Goals as goal

pub loop-row-init : goal.loop-row-init
loop-row-init g c = ([], c.iter-rest.ensures, c.iter-other_rest.ensures)

pub returns-in_default-next : goal.returns-in_default-next
returns-in_default-next g c = (
  λ t. absurd (let f : false ≡ true = t in cc),
  λ e. absurd (walk_ends c.loop-row.invariant.0 c.loop-row.rest c.loop-row.other_rest c.args.rows.now c.args.others.now c.next.new.self c.in-Some.row.now c.loop-row.invariant.1 c.loop-row.invariant.2 c.in-Some.ensures.steps c.in_default-next.ensures.steps.0 e),
)

pub returns-then-not-same_object : goal.returns-then-not-same_object
returns-then-not-same_object g c = (
  λ t. absurd (let f : false ≡ true = t in cc),
  λ e. absurd (walk_differs c.loop-row.invariant.0 c.loop-row.rest c.loop-row.other_rest c.args.rows.now c.args.others.now c.next.new.self c.next-in-Some.new.self c.in-Some.row.now c.in-Some-next.other.now c.loop-row.invariant.1 c.loop-row.invariant.2 c.in-Some.ensures.steps c.in-Some-next.ensures.steps (λ same. let t = c.same_object.ensures.1 same in let f = c.if-not-same_object.true in cc) e),
)

pub loop-row-preserved : goal.loop-row-preserved
loop-row-preserved g c =
    let both = walk_more c.loop-row.invariant.0 c.loop-row.rest c.loop-row.other_rest c.args.rows.now c.args.others.now c.next.new.self c.next-in-Some.new.self c.in-Some.row.now c.in-Some-next.other.now c.loop-row.invariant.1 c.loop-row.invariant.2 c.in-Some.ensures.steps c.in-Some-next.ensures.steps (c.same_object.ensures.0 c.if-not-same_object.false) in
    (c.loop-row.invariant.0 ++ c.in-Some.row.now ∷ [], both.0, both.1)

pub returns : goal.returns
returns g c =
    let long : length c.args.rows.now ≡ length c.args.others.now = omega arith in
    (λ _. walk_done c.loop-row.invariant.0 c.loop-row.rest c.loop-row.other_rest c.args.rows.now c.args.others.now c.loop-row.invariant.1 c.loop-row.invariant.2 c.in_default.ensures.steps.0 long, λ _. refl)
