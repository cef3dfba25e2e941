use Rattle.std.proofs.Common.{◌≡◌, ◌∙◌, rules}
use Rattle.std.specs.Ordering.{is_lt}
use Rattle.canvas_blocks.specs.Blocks.{IsEdge}
use Rattle.canvas_model.specs.declared.ObjId.{ObjId}
use Rattle.canvas_model.specs.Document.{Object}
use Rattle.canvas_model.specs.Ids.{id_cmp}
use Rattle.canvas_doc.proofs.Cuts.{row_taken}
use Rattle.canvas_doc.proofs.rows.take_row.Goals as goal

pub returns : goal.returns
returns g c =
    let at = c.remove_at_edge.ensures in
    let edge : IsEdge (λ (e : ObjId × Object) b. b ≡ is_lt (id_cmp e.0 c.args.id)) c.args.rows.now at.0 = record {
      within = at.1.within;
      before = λ d lt. let called = at.1.before d lt in search rules;
      after = λ d lt. let called = at.1.after d lt in search rules;
    } in
    at.3 ∙ row_taken c.args.rows.now c.requires.sorted c.args.id at.0 edge c.requires.live
