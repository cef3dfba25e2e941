use Rattle.std.proofs.Common.{refl}
use Rattle.canvas_forms.specs.Version.{version_two}
use Rattle.canvas_wire.specs.Messages.{message_json, IsMessageShape, IsMessageJson}
use Rattle.canvas_wire.specs.Text.{IsShallowMessage}
use Rattle.canvas_wire.proofs.MessageForms.{parts_are}
use Rattle.canvas_wire.proofs.Message.{one_message, message_shaped}
use Rattle.canvas_wire.proofs.Decoding.{spells_same}
use Rattle.canvas_wire.proofs.laws.every_message.Goals as goal

pub returns : goal.returns
returns c = record {
  form = parts_are;
  back = λ bytes m w fits small. (message_json version_two m, (w.utf8, w.reads_back small), ((w.orderly, (w.sound, fits, refl)), small));
  one = spells_same (IsMessageShape version_two) (IsMessageJson version_two) IsShallowMessage one_message message_shaped;
}
