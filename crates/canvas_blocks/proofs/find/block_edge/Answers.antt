use Rattle.std.proofs.Common.{◌≡◌, ◌+◌, ◌-◌, ◌/◌, ◌<◌, false, get_or, length, refl, subst, sym, arith, Vec}
use Rattle.std.specs.Fn.{FnReturnsAt}
use Rattle.canvas_blocks.proofs.Placed.{at_block}
use Rattle.canvas_blocks.proofs.find.block_edge.Goals as goal

pub loop-low-preserved-then-passes : goal.loop-low-preserved-then-passes
loop-low-preserved-then-passes g c =
    let v : Vec g.row.T.Denot g.row.A.Denot = c.index-blocks-mid.result in
    let mid = c.loop-low.low + (c.loop-low.high - c.loop-low.low) / 2 in
    let long : 0 < length v.items = subst (λ (u : Vec g.row.T.Denot g.row.A.Denot). 0 < length u.items) (sym c.index-blocks-mid.is) (c.requires.none_empty mid v (omega arith) (omega arith)) in (
      omega arith,
      omega arith,
      λ b d lt. at_block (FnReturnsAt g.P.Fn c.args.before.now) c.args.blocks.now mid (mid + 1 - 1) v c.index.result.now _ _ (omega arith) c.index-blocks-mid.is long c.index.ensures c.passes.ensures c.if-passes.true (omega arith) b d,
      λ b d lt. c.loop-low.invariant.3 b d lt,
    )

pub loop-low-preserved : goal.loop-low-preserved
loop-low-preserved g c =
    let v : Vec g.row.T.Denot g.row.A.Denot = c.index-blocks-mid.result in
    let mid = c.loop-low.low + (c.loop-low.high - c.loop-low.low) / 2 in
    let long : 0 < length v.items = subst (λ (u : Vec g.row.T.Denot g.row.A.Denot). 0 < length u.items) (sym c.index-blocks-mid.is) (c.requires.none_empty mid v (omega arith) (omega arith)) in (
      omega arith,
      omega arith,
      λ b d lt. c.loop-low.invariant.2 b d lt,
      λ b d lt. at_block (FnReturnsAt g.P.Fn c.args.before.now) c.args.blocks.now mid mid v c.index.result.now _ _ (omega arith) c.index-blocks-mid.is long c.index.ensures c.passes.ensures c.if-passes.false refl b d,
    )

pub returns-clause-after : goal.returns-clause-after
returns-clause-after g c =
    let met : c.loop-low.high ≡ c.loop-low.low = omega arith in
    λ b d lt. subst (λ k. FnReturnsAt g.P.Fn c.args.before.now (get_or (get_or c.args.blocks.now k b).items 0 d) false) met (c.loop-low.invariant.3 b d (omega arith))
