use Rattle.canvas_script.specs.Report.{AddsBlocks}
use Rattle.canvas_script.proofs.report.write_nodes.Given as goal

abbrev pub invariant-loop-k : goal.invariant-loop-k
invariant-loop-k l = AddsBlocks l.names l.world l.k l.initial.out.items l.out.items
