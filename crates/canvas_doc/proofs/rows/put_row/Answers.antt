use Rattle.std.proofs.Common.{◌≡◌, ◌∙◌, rules}
use Rattle.std.specs.Ordering.{is_lt}
use Rattle.std.proofs.lemmas.Result.{on_ok_weaker}
use Rattle.canvas_blocks.specs.Blocks.{IsEdge}
use Rattle.canvas_model.specs.declared.ObjId.{ObjId}
use Rattle.canvas_model.specs.Document.{Object}
use Rattle.canvas_model.specs.Ids.{id_cmp}
use Rattle.canvas_doc.proofs.Cuts.{row_put_there}
use Rattle.canvas_doc.proofs.rows.put_row.Goals as goal

pub returns-clause-ok : goal.returns-clause-ok
returns-clause-ok g c = on_ok_weaker c.insert_at_edge.result (λ at.
    let edge : IsEdge (λ (e : ObjId × Object) b. b ≡ is_lt (id_cmp e.0 c.args.id)) c.args.rows.now at.0 = record {
      within = at.1.within;
      before = λ d lt. let called = at.1.before d lt in search rules;
      after = λ d lt. let called = at.1.after d lt in search rules;
    } in
    at.2 ∙ row_put_there c.args.rows.now c.requires.sorted c.args.id at.0 edge c.requires.gone c.args.object) c.insert_at_edge.ensures.ok
