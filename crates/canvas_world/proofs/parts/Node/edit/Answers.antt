use Rattle.canvas_world.proofs.Placed.{edits_made}
use Rattle.canvas_world.proofs.parts.Node.edit.Goals as goal

pub returns-clause-edits : goal.returns-clause-edits
returns-clause-edits g c =
    edits_made _ c.args.self.now c.args.request.now _ _ _ _ _ _ c.self.view_is c.in-Ok.ensures.ok c.in_ok-copy.ensures c.in_ok-number.ensures.ok c.in_ok-number.ensures.number c.in_ok-reserve.ensures.items c.push_reserved.ensures.items
