use Rattle.std.proofs.Common.{◌≡◌, ◌+◌, ◌-◌, ◌<◌, ◌≤◌, sym, ◌∙◌, arith}
use Rattle.canvas_blocks.specs.Blocks.{index_at, index_of}
use Rattle.canvas_blocks.proofs.Gaps.{came_down, end_now, index_now, place_now, there_now, was_there}
use Rattle.canvas_blocks.proofs.Shifted.{gap_came_down}
use Rattle.canvas_blocks.proofs.Sized.{same_in}
use Rattle.canvas_blocks.proofs.moves.gap_down.Goals as goal

pub last_from-requires-clause-at : goal.last_from-requires-clause-at
last_from-requires-clause-at g c = there_now c.args.blocks.now.items _ _ c.loop-last.invariant.2 c.deref.ensures.value _ _ c.loop-last.invariant.0

pub last_from-requires-clause-to : goal.last_from-requires-clause-to
last_from-requires-clause-to g c = place_now c.args.blocks.now.items _ _ c.loop-last.invariant.2 c.deref.ensures.value c.args.to c.requires.to

pub copy-requires-clause-to : goal.copy-requires-clause-to
copy-requires-clause-to g c = same_in c.args.blocks.now.items _ _ _ (sym c.loop-last.invariant.2) c.loop-last.invariant.0

pub loop-last-smaller : goal.loop-last-smaller
loop-last-smaller g c =
    let bs = c.args.blocks.now.items in
    let cs = c.loop-last.blocks.items in
    let ss = c.deref.result.now in
    let at = c.loop-last.at in
    let last = c.in-Some.last in
    let there = index_now bs cs ss c.loop-last.invariant.2 c.deref.ensures.value at.0 at.1 in
    let then = index_now bs cs ss c.loop-last.invariant.2 c.deref.ensures.value last.0 last.1 in
    let end = end_now bs cs ss c.loop-last.invariant.2 c.deref.ensures.value c.args.to in
    let one : index_of ss last.0 last.1 + 1 ≡ index_of ss at.0 at.1 = c.in-Some.ensures.last in
    let from : index_at ss c.args.to ≤ index_of ss last.0 last.1 = c.in-Some.ensures.from in
    let less : index_of bs last.0 last.1 - index_at bs c.args.to < index_of bs at.0 at.1 - index_at bs c.args.to = omega (arith, there, then, end, one, from) in
    less

pub loop-last-preserved : goal.loop-last-preserved
loop-last-preserved g c =
    let bs = c.args.blocks.now.items in
    let cs = c.loop-last.blocks.items in
    let ss = c.deref.result.now in
    let at = c.loop-last.at in
    let last = c.in-Some.last in
    let there = index_now bs cs ss c.loop-last.invariant.2 c.deref.ensures.value at.0 at.1 in
    let then = index_now bs cs ss c.loop-last.invariant.2 c.deref.ensures.value last.0 last.1 in
    let end = end_now bs cs ss c.loop-last.invariant.2 c.deref.ensures.value c.args.to in
    let one : index_of bs last.0 last.1 + 1 ≡ index_of bs at.0 at.1 = omega (arith, there, then, c.in-Some.ensures.last) in
    let from : index_at bs c.args.to ≤ index_of bs last.0 last.1 = omega (arith, then, end, c.in-Some.ensures.from) in
    let inside = was_there bs cs ss c.loop-last.invariant.2 c.deref.ensures.value last.0 last.1 c.in-Some.ensures.place in (
      inside,
      came_down bs cs ss c.loop-last.invariant.2 c.deref.ensures.value c.copy.new.blocks.items at last c.copy.ensures.items c.loop-last.invariant.0 one ∙ c.loop-last.invariant.1,
      c.copy.ensures.sizes ∙ c.loop-last.invariant.2,
      c.copy.ensures.none_empty,
      (let high = c.loop-last.invariant.4 in omega (arith, one, high)),
      λ less. from,
    )

pub returns-clause-index : goal.returns-clause-index
returns-clause-index g c =
    let bs = c.args.blocks.now.items in
    let cs = c.loop-last.blocks.items in
    let ss = c.deref.result.now in
    let at = c.loop-last.at in
    let there = index_now bs cs ss c.loop-last.invariant.2 c.deref.ensures.value at.0 at.1 in
    let end = end_now bs cs ss c.loop-last.invariant.2 c.deref.ensures.value c.args.to in
    let done : index_of ss at.0 at.1 ≤ index_at ss c.args.to = c.in_default.ensures.none in
    gap_came_down (index_of bs c.args.from.0 c.args.from.1) (index_at bs c.args.to) (index_of bs at.0 at.1) c.loop-last.invariant.4 c.loop-last.invariant.5 (omega (arith, there, end, done))
