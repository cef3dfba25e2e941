use Rattle.canvas_forms.proofs.RowForms.{row_is}
use Rattle.canvas_wire.proofs.Stored.{row_text_once, written_row, spelled_row_is_row}
use Rattle.canvas_wire.proofs.laws.every_row.Goals as goal

pub returns : goal.returns
returns c = record {
  form = row_is;
  back = written_row;
  one = row_text_once;
  rows = spelled_row_is_row;
}
