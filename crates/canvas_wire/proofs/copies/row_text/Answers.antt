use Rattle.std.proofs.Common.{ap, ◌∙◌}
use Rattle.serde_json.specs.Written.{has_float, compact_text}
use Rattle.canvas_forms.proofs.Docs.{row_no_float}
use Rattle.canvas_wire.proofs.copies.row_text.Goals as goal

pub returns : goal.returns
returns g c =
    let same = c.in_ok-write_row.ensures in
    c.in_ok-text.ensures.text (ap has_float same ∙ row_no_float c.args.row.now) ∙ ap compact_text same
