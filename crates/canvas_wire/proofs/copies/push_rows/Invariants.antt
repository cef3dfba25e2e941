use Rattle.std.proofs.Common.{◌≡◌, ◌++◌}
use Rattle.std.specs.Prelude.{string_bytes}
use Rattle.std.specs.FinMap as map
use Rattle.serde_json.specs.Written.{items_text, compact_text}
use Rattle.canvas_codec.specs.Parts.{each_written}
use Rattle.canvas_forms.specs.Rows.{row_form, rows_form}
use Rattle.canvas_wire.proofs.copies.push_rows.Given as goal

-- what is written, and the texts of the rows that are still to come
abbrev pub invariant-loop-row : goal.invariant-loop-row
invariant-loop-row g l = string_bytes l.text ++ items_text l.later (each_written row_form.write l.row-iterator) ≡ string_bytes l.fn.text ++ compact_text (rows_form.write (map.entries l.doc))
