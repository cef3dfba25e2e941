use Rattle.canvas_script.proofs.Blocks.{next_block, no_blocks}
use Rattle.canvas_script.proofs.report.write_nodes.Goals as goal

pub loop-k-init : goal.loop-k-init
loop-k-init c = no_blocks c.args.names.now c.args.world.now c.args.out.now.items

pub loop-k-preserved : goal.loop-k-preserved
loop-k-preserved c = next_block c.args.names.now c.args.world.now _ _ _ _ c.loop-k.invariant c.in_ok-write_node.ensures.ok
