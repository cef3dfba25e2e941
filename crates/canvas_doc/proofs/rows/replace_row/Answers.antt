use Rattle.std.proofs.Common.{◌≡◌, ◌∙◌, rules, sym, ap}
use Rattle.std.specs.Prelude.{is_some}
use Rattle.std.specs.Ordering.{is_lt}
use Rattle.canvas_blocks.specs.Blocks.{IsEdge}
use Rattle.canvas_model.specs.declared.ObjId.{ObjId}
use Rattle.canvas_model.specs.Document.{Object}
use Rattle.canvas_model.specs.Ids.{id_cmp}
use Rattle.canvas_doc.proofs.Cuts.{row_lives, row_value, row_was}
use Rattle.canvas_doc.proofs.rows.replace_row.Goals as goal

pub unwrap-requires : goal.unwrap-requires
unwrap-requires g c =
    let at = c.replace_value_at_edge-old.ensures in
    let edge : IsEdge (λ (e : ObjId × Object) b. b ≡ is_lt (id_cmp e.0 c.args.id)) c.args.rows.now at.0 = record {
      within = at.1.within;
      before = λ d lt. let called = at.1.before d lt in search rules;
      after = λ d lt. let called = at.1.after d lt in search rules;
    } in
    ap is_some (at.2 ∙ row_was c.args.rows.now c.requires.sorted c.args.id at.0 edge c.requires.live) ∙ row_lives c.args.rows.now c.requires.sorted c.args.id at.0 edge c.requires.live

pub returns-clause-object : goal.returns-clause-object
returns-clause-object g c =
    let at = c.replace_value_at_edge-old.ensures in
    let edge : IsEdge (λ (e : ObjId × Object) b. b ≡ is_lt (id_cmp e.0 c.args.id)) c.args.rows.now at.0 = record {
      within = at.1.within;
      before = λ d lt. let called = at.1.before d lt in search rules;
      after = λ d lt. let called = at.1.after d lt in search rules;
    } in
    sym (row_was c.args.rows.now c.requires.sorted c.args.id at.0 edge c.requires.live) ∙ sym at.2 ∙ c.unwrap.ensures

pub returns-clause-rows : goal.returns-clause-rows
returns-clause-rows g c =
    let at = c.replace_value_at_edge-old.ensures in
    let edge : IsEdge (λ (e : ObjId × Object) b. b ≡ is_lt (id_cmp e.0 c.args.id)) c.args.rows.now at.0 = record {
      within = at.1.within;
      before = λ d lt. let called = at.1.before d lt in search rules;
      after = λ d lt. let called = at.1.after d lt in search rules;
    } in
    at.3 ∙ row_value c.args.rows.now c.requires.sorted c.args.id at.0 edge c.requires.live c.args.object
