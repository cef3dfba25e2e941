use Rattle.std.proofs.Common.{◌≡◌, [], map, ap, ◌∙◌, rules}
use Rattle.std.specs.FinMap as finmap
use Rattle.serde_json.specs.Data.{array}
use Rattle.serde_json.specs.View.{view}
use Rattle.canvas_forms.proofs.Docs.{rows_written}
use Rattle.canvas_embed.proofs.saves.write_rows.Goals as goal

pub returns : goal.returns
returns c =
    let none : c.loop-row.row-iterator ≡ [] = search rules in
    c.from-json.ensures ∙ ap array (rows_written (map view c.loop-row.items.items) c.loop-row.row-iterator (finmap.entries c.args.doc.now) c.loop-row.invariant none)
