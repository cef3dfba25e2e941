use Rattle.canvas_wire.proofs.CheckpointForms.{checkpoint_is}
use Rattle.canvas_wire.proofs.Stored.{checkpoint_text_once, read_storable}
use Rattle.canvas_wire.proofs.laws.every_checkpoint.Goals as goal

pub returns : goal.returns
returns c = record {
  form = checkpoint_is;
  one = checkpoint_text_once;
  storable = read_storable;
}
