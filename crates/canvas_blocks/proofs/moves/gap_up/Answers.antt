use Rattle.std.proofs.Common.{◌≡◌, ◌+◌, ◌-◌, ◌<◌, ◌≤◌, sym, ◌∙◌, arith}
use Rattle.canvas_blocks.specs.Blocks.{index_at, index_of}
use Rattle.canvas_blocks.proofs.Gaps.{came_up, end_now, index_now, place_now, there_now, was_there}
use Rattle.canvas_blocks.proofs.Shifted.{gap_came_up}
use Rattle.canvas_blocks.proofs.Sized.{same_in}
use Rattle.canvas_blocks.proofs.moves.gap_up.Goals as goal

pub next_below-requires-clause-at : goal.next_below-requires-clause-at
next_below-requires-clause-at g c = there_now c.args.blocks.now.items _ _ c.loop-next.invariant.2 c.deref.ensures.value _ _ c.loop-next.invariant.0

pub next_below-requires-clause-to : goal.next_below-requires-clause-to
next_below-requires-clause-to g c = place_now c.args.blocks.now.items _ _ c.loop-next.invariant.2 c.deref.ensures.value c.args.to c.requires.to

pub copy-requires-clause-to : goal.copy-requires-clause-to
copy-requires-clause-to g c = same_in c.args.blocks.now.items _ _ _ (sym c.loop-next.invariant.2) c.loop-next.invariant.0

pub loop-next-smaller : goal.loop-next-smaller
loop-next-smaller g c =
    let bs = c.args.blocks.now.items in
    let cs = c.loop-next.blocks.items in
    let ss = c.deref.result.now in
    let at = c.loop-next.at in
    let next = c.in-Some.next in
    let there = index_now bs cs ss c.loop-next.invariant.2 c.deref.ensures.value at.0 at.1 in
    let then = index_now bs cs ss c.loop-next.invariant.2 c.deref.ensures.value next.0 next.1 in
    let end = end_now bs cs ss c.loop-next.invariant.2 c.deref.ensures.value c.args.to in
    let one : index_of ss next.0 next.1 ≡ index_of ss at.0 at.1 + 1 = c.in-Some.ensures.next in
    let below : index_of ss next.0 next.1 < index_at ss c.args.to = c.in-Some.ensures.below in
    let less : index_at bs c.args.to - index_of bs next.0 next.1 < index_at bs c.args.to - index_of bs at.0 at.1 = omega (arith, there, then, end, one, below) in
    less

pub loop-next-preserved : goal.loop-next-preserved
loop-next-preserved g c =
    let bs = c.args.blocks.now.items in
    let cs = c.loop-next.blocks.items in
    let ss = c.deref.result.now in
    let at = c.loop-next.at in
    let next = c.in-Some.next in
    let there = index_now bs cs ss c.loop-next.invariant.2 c.deref.ensures.value at.0 at.1 in
    let then = index_now bs cs ss c.loop-next.invariant.2 c.deref.ensures.value next.0 next.1 in
    let end = end_now bs cs ss c.loop-next.invariant.2 c.deref.ensures.value c.args.to in
    let one : index_of bs next.0 next.1 ≡ index_of bs at.0 at.1 + 1 = omega (arith, there, then, c.in-Some.ensures.next) in
    let below : index_of bs next.0 next.1 < index_at bs c.args.to = omega (arith, then, end, c.in-Some.ensures.below) in
    let inside = was_there bs cs ss c.loop-next.invariant.2 c.deref.ensures.value next.0 next.1 c.in-Some.ensures.place in (
      inside,
      came_up bs cs ss c.loop-next.invariant.2 c.deref.ensures.value c.copy.new.blocks.items at next c.copy.ensures.items inside one ∙ c.loop-next.invariant.1,
      c.copy.ensures.sizes ∙ c.loop-next.invariant.2,
      c.copy.ensures.none_empty,
      (let low = c.loop-next.invariant.4 in omega (arith, one, low)),
      λ more. below,
    )

pub returns-clause-index : goal.returns-clause-index
returns-clause-index g c =
    let bs = c.args.blocks.now.items in
    let cs = c.loop-next.blocks.items in
    let ss = c.deref.result.now in
    let at = c.loop-next.at in
    let there = index_now bs cs ss c.loop-next.invariant.2 c.deref.ensures.value at.0 at.1 in
    let end = end_now bs cs ss c.loop-next.invariant.2 c.deref.ensures.value c.args.to in
    let done : index_at ss c.args.to ≤ index_of ss at.0 at.1 + 1 = c.in_default.ensures.none in
    gap_came_up (index_of bs c.args.from.0 c.args.from.1) (index_at bs c.args.to) (index_of bs at.0 at.1) c.loop-next.invariant.4 c.loop-next.invariant.5 (omega (arith, there, end, done))
