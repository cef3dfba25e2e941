use Rattle.std.proofs.Common.{ℕ, List, Option, arith}
use Rattle.std.specs.Option.{option_copied}
use Rattle.canvas_model.specs.Middle.{IsMiddle}
use Rattle.canvas_model.specs.Order.{FitsBetween}
use Rattle.canvas_pos.specs.Ends.{IsEnd}
use Rattle.canvas_pos.specs.Laws.{IsOnlyMiddle}
use Rattle.canvas_pos.proofs.Gaps.{middle-opens}
use Rattle.canvas_pos.proofs.MiddleLaws.{middle-inside, middle-unique, shut-outside}
use Rattle.canvas_pos.proofs.Order.{apart-in_order, fits-inside}
use Rattle.canvas_pos.proofs.between.Goals as goal

-- the middle is the only one, and fits between the ends
middle-only : (lo hi : Option (List ℕ)) (p : List ℕ) → IsEnd lo → IsEnd hi → IsMiddle lo hi p → IsOnlyMiddle lo hi p × FitsBetween lo hi p
middle-only lo hi p e f h = (λ q k. middle-unique lo hi q p e f k h, (fits-inside lo hi p e f).1 (middle-inside lo hi p e f h))

pub first_gap-requires-clause-order : goal.first_gap-requires-clause-order
first_gap-requires-clause-order g c =
    let lo = option_copied c.bytes_of-lo.result in
    let hi = option_copied c.bytes_of-hi.result in
    let apart = rw (← c.bytes_of-lo.ensures.same, ← c.bytes_of-hi.ensures.same) at c.requires in
    (apart-in_order lo hi c.bytes_of-lo.ensures.position c.bytes_of-hi.ensures.position).0 apart

pub returns-in_default-clause-none : goal.returns-in_default-clause-none
returns-in_default-clause-none g c =
    let lo = option_copied c.bytes_of-lo.result in
    let hi = option_copied c.bytes_of-hi.result in
    rw (← c.bytes_of-lo.ensures.same, ← c.bytes_of-hi.ensures.same)
    (λ p h. shut-outside lo hi c.in_default.ensures.shut p ((fits-inside lo hi p c.bytes_of-lo.ensures.position c.bytes_of-hi.ensures.position).0 h))

pub returns-clause-middle : goal.returns-clause-middle
returns-clause-middle g c =
    rw (← c.bytes_of-lo.ensures.same, ← c.bytes_of-hi.ensures.same)
    (middle-opens (option_copied c.bytes_of-lo.result) (option_copied c.bytes_of-hi.result) c.in-Some.gap.before c.in-Some.gap.last c.in_ok-middle.middle
    c.in-Some.ensures.opens (omega arith) c.in_ok-middle.ensures.len c.in_ok-middle.ensures.digits c.in_ok-middle.ensures.value)

pub returns-clause-only : goal.returns-clause-only
returns-clause-only g c =
    let low = rw c.bytes_of-lo.ensures.same at c.bytes_of-lo.ensures.position in
    let high = rw c.bytes_of-hi.ensures.same at c.bytes_of-hi.ensures.position in
    (middle-only _ _ c.in_ok-middle.middle low high (returns-clause-middle g c)).0

pub returns-clause-fits : goal.returns-clause-fits
returns-clause-fits g c =
    let low = rw c.bytes_of-lo.ensures.same at c.bytes_of-lo.ensures.position in
    let high = rw c.bytes_of-hi.ensures.same at c.bytes_of-hi.ensures.position in
    (middle-only _ _ c.in_ok-middle.middle low high (returns-clause-middle g c)).1
