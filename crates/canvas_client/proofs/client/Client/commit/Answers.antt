use Rattle.canvas_client.proofs.Edited.{may_add}
use Rattle.canvas_client.proofs.client.Client.commit.Goals as goal

pub add_edit-requires : goal.add_edit-requires
add_edit-requires g c = may_add c.args.self.now c.requires.0 c.args.change c.requires.1
