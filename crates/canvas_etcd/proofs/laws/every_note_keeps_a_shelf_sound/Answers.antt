use Rattle.canvas_etcd.proofs.Sounds.{sound_noted}
use Rattle.canvas_etcd.proofs.laws.every_note_keeps_a_shelf_sound.Goals as goal

pub returns : goal.returns
returns c = sound_noted
