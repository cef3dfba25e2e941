use Rattle.std.proofs.Common.{rules}
use Rattle.canvas_world.proofs.Placed.{edit_at}
use Rattle.canvas_world.proofs.Served.{node_kept, edit_running, world_kept}
use Rattle.canvas_world.proofs.network.Network.edit.Goals as goal

pub invariant_of-self : goal.invariant_of-self
invariant_of-self g c = node_kept _ _ c.in-Some.at _ _ c.self.invariant c.index_mut-node.ensures.value c.in_err-answer.ensures.err

pub returns-in_err-answer-clause-err : goal.returns-in_err-answer-clause-err
returns-in_err-answer-clause-err g c = let back = world_kept _ _ c.in-Some.at _ _ c.self.view_is c.index_mut-node.ensures.value c.in_err-answer.ensures.err in search rules

pub invariant_of-self-2 : goal.invariant_of-self-2
invariant_of-self-2 g c = edit_running c.every_step.ensures.good _ _ _ c.args.k _ _ _ c.args.request.now _ c.self.invariant c.deref.ensures.value c.in-Some.ensures.some c.index_mut-node.ensures.value c.in_ok-answer.ensures.edits

pub returns-clause-step : goal.returns-clause-step
returns-clause-step g c = edit_at _ c.args.self.now _ c.args.k _ _ _ c.args.request.now _ c.self.view_is c.deref.ensures.value c.in-Some.ensures.some c.index_mut-node.ensures.value c.in_ok-answer.ensures.edits
