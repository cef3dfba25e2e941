use Rattle.canvas_world.proofs.Served.{new_running, new_empty}
use Rattle.canvas_world.proofs.network.Network.new.Goals as goal

pub invariant_of-result : goal.invariant_of-result
invariant_of-result g c = new_running c.every_run.ensures.good _ _ _ _ _ c.in_ok-server.ensures c.new-2.ensures.items c.new-3.ensures.items c.new-4.ensures.items c.new-5.ensures.items

pub returns : goal.returns
returns g c = new_empty _ _ _ _ _ c.in_ok-server.ensures c.new-2.ensures.items c.new-3.ensures.items c.new-4.ensures.items c.new-5.ensures.items
