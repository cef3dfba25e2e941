use Rattle.std.proofs.Common.{◌∙◌, ap, drop}
use Rattle.canvas_pending.proofs.Waiting.{one_dropped}
use Rattle.canvas_pending.proofs.pending.Pending.drop_first.Goals as goal

pub loop-preserved : goal.loop-preserved
loop-preserved g c = c.pop_first.ensures ∙ ap (drop 1) c.loop.invariant ∙ one_dropped c.loop.counter c.args.self.now
