use Rattle.canvas_client.proofs.Landing.{comes_after}
use Rattle.canvas_client.proofs.drafting.position_before.Goals as goal

pub returns-in-Some : goal.returns-in-Some
returns-in-Some g c =
    comes_after c.args.view.now c.args.target.parent c.args.except c.in-Some.after c.args.target.after c.sibling_position.result c.in-Some.is c.requires c.sibling_position.ensures.some c.sibling_position.ensures.none
