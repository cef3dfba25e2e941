use Rattle.std.proofs.Common.{◌++◌, length, refl, arith}
use Rattle.canvas_blocks.specs.Blocks.{flat}
use Rattle.canvas_blocks.proofs.Placed.{none_after, one_less}
use Rattle.canvas_blocks.proofs.iter.IterIterator.next.Goals as goal

pub invariant_of-self-2 : goal.invariant_of-self-2
invariant_of-self-2 g c =
    let less = one_less c.self.inside.first.now c.deref.result.now c.in_ok-item.rest.now c.self.inside.others.now c.in_ok-block.others.now c.in_ok-block.block.now c.in_ok-item.item.now (length (c.self.inside.first.now ++ flat c.self.inside.others.now)) refl c.in_default.ensures.cases c.in_ok-block.ensures.cases.0 c.deref.ensures.value c.in_ok-item.ensures.cases.0 in
    record {
      none_empty = none_after c.self.inside.others.now c.in_ok-block.others.now c.in_ok-block.block.now c.self.invariant.none_empty c.in_ok-block.ensures.cases.0;
      least = omega (arith, less, c.self.invariant.least);
      most = omega (arith, less, c.self.invariant.most);
    }
