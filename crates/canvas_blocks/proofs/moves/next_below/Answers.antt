use Rattle.std.proofs.Common.{◌≡◌, ◌+◌, ◌≤◌, length, rules, arith}
use Rattle.canvas_blocks.specs.Blocks.{flat, index_at, index_of}
use Rattle.canvas_blocks.proofs.Sized.{after_index, before_index, place_within}
use Rattle.canvas_blocks.proofs.moves.next_below.Goals as goal

pub returns-in_err-next-clause-none : goal.returns-in_err-next-clause-none
returns-in_err-next-clause-none g c =
    let all : length (flat c.args.blocks.now) ≡ index_of c.args.blocks.now c.args.at.0 c.args.at.1 + 1 = c.in_err-next.ensures.index in
    let within = place_within c.args.blocks.now c.args.to c.requires.to in
    let done : index_at c.args.blocks.now c.args.to ≤ index_of c.args.blocks.now c.args.at.0 c.args.at.1 + 1 = omega (arith, all, within) in
    search rules

pub returns-then-is_before-clause-below : goal.returns-then-is_before-clause-below
returns-then-is_before-clause-below g c = before_index c.args.blocks.now c.in_ok-next.next c.args.to c.in_ok-next.ensures.place c.requires.to (c.is_before.ensures.0 c.if-is_before.true)

pub returns-else-is_before-clause-none : goal.returns-else-is_before-clause-none
returns-else-is_before-clause-none g c =
    let next : index_of c.args.blocks.now c.in_ok-next.next.0 c.in_ok-next.next.1 ≡ index_of c.args.blocks.now c.args.at.0 c.args.at.1 + 1 = c.in_ok-next.ensures.index in
    let far = after_index c.args.blocks.now c.in_ok-next.next c.args.to c.in_ok-next.ensures.place c.requires.to (λ before. let yes = c.is_before.ensures.1 before in let no = c.if-is_before.false in cc) in
    omega (arith, next, far)
