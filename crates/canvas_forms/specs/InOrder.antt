-- What JSON trees of rows are read as, where they stand in order.
use Rattle.std.specs.Prelude.{List, Bool, Option, None, if◌then◌else◌}
use Rattle.serde_json.specs.Data.{Data}
use Rattle.canvas_model.specs.declared.ObjId.{ObjId}
use Rattle.canvas_model.specs.Document.{Object}
use Rattle.canvas_forms.specs.RowOrder.{head_in, is_row, are_in_order}
use Rattle.canvas_forms.specs.Rows.{row_form, rows_form}

-- the rows that a JSON tree in order is read as
abbrev pub rows_in : Data → Option (List (ObjId × Object) × Bool)
rows_in d = if are_in_order d then rows_form.read d else None

-- the row that a JSON tree is read as which may stand by itself
abbrev pub row_in : Data → Option ((ObjId × Object) × Bool)
row_in d = if is_row (head_in d) then row_form.read d else None
