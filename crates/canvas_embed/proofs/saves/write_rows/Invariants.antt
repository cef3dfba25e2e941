use Rattle.std.proofs.Common.{◌≡◌, ◌++◌, map}
use Rattle.std.specs.FinMap as finmap
use Rattle.serde_json.specs.View.{view}
use Rattle.canvas_forms.specs.Rows.{row_form}
use Rattle.canvas_embed.proofs.saves.write_rows.Given as goal

-- what is written, and the rows that are still to come
abbrev pub invariant-loop-row : goal.invariant-loop-row
invariant-loop-row l = map view l.items.items ++ map row_form.write l.row-iterator ≡ map row_form.write (finmap.entries l.doc)
