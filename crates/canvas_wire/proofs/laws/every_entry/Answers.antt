use Rattle.canvas_wire.proofs.EntryForms.{entry_is}
use Rattle.canvas_wire.proofs.Stored.{entry_text_once, entry_back, written_entry, next_storable}
use Rattle.canvas_wire.proofs.laws.every_entry.Goals as goal

pub returns : goal.returns
returns c = record {
  form = entry_is;
  back = entry_back;
  one = entry_text_once;
  next_back = written_entry;
  keeps = next_storable c.every_entry.ensures.storable;
}
