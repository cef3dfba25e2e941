use Rattle.std.proofs.lemmas.Result.{on_ok_weaker}
use Rattle.canvas_script.proofs.Blocks.{whole_report}
use Rattle.canvas_script.proofs.report.write_report.Goals as goal

pub returns : goal.returns
returns c = on_ok_weaker c.write_nodes.result (whole_report c.args.names.now c.args.world.now _ _ _ c.in_ok-write_server.ensures.ok) c.write_nodes.ensures
