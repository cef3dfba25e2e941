use Rattle.std.proofs.Common.{◌≡◌, ◌∙◌, rules, sym, ap, subst}
use Rattle.std.specs.Ordering.{is_lt}
use Rattle.std.specs.declared.cmp.Ordering.TheVariants.{Equal}
use Rattle.std.proofs.lemmas.Cmp.{tied_itself}
use Rattle.canvas_blocks.specs.Blocks.{IsEdge}
use Rattle.canvas_model.specs.declared.ObjId.{ObjId}
use Rattle.canvas_model.specs.Document.{Object}
use Rattle.canvas_model.specs.Ids.{id_cmp}
use Rattle.canvas_doc.proofs.Maps.{exact_ids, ids_total}
use Rattle.canvas_doc.proofs.Told.{differing, told_one}
use Rattle.std.specs.Option.{option_copied}
use Rattle.canvas_doc.proofs.Edges.{found_at, not_found_at, found_none}
use Rattle.canvas_doc.proofs.rows.object_of.Goals as goal

pub returns-in_err-row : goal.returns-in_err-row
returns-in_err-row g c sorted =
    let at = c.after_edge.ensures in
    let edge : IsEdge (λ (e : ObjId × Object) b. b ≡ is_lt (id_cmp e.0 c.args.id)) c.args.rows.now at.0 = record {
      within = at.1.within;
      before = λ d lt. let called = at.1.before d lt in search rules;
      after = λ d lt. let called = at.1.after d lt in search rules;
    } in
    ap option_copied c.from_residual.ensures ∙ found_none ids_total c.args.rows.now sorted c.args.id at.0 edge (sym (ap option_copied c.in_err-row.was) ∙ at.2)

pub returns-then-eq : goal.returns-then-eq
returns-then-eq g c sorted =
    let at = c.after_edge.ensures in
    let edge : IsEdge (λ (e : ObjId × Object) b. b ≡ is_lt (id_cmp e.0 c.args.id)) c.args.rows.now at.0 = record {
      within = at.1.within;
      before = λ d lt. let called = at.1.before d lt in search rules;
      after = λ d lt. let called = at.1.after d lt in search rules;
    } in
    found_at ids_total c.args.rows.now sorted c.args.id at.0 edge c.in_ok-row.row.now (sym (ap option_copied c.in_ok-row.was) ∙ at.2) (subst (λ x. id_cmp x c.args.id ≡ Equal) (sym (told_one c.in_ok-row.row.now.0 c.args.id c.eq.result c.eq.ensures c.if-eq.true)) (tied_itself ids_total c.args.id))

pub returns-else-eq : goal.returns-else-eq
returns-else-eq g c sorted =
    let at = c.after_edge.ensures in
    let edge : IsEdge (λ (e : ObjId × Object) b. b ≡ is_lt (id_cmp e.0 c.args.id)) c.args.rows.now at.0 = record {
      within = at.1.within;
      before = λ d lt. let called = at.1.before d lt in search rules;
      after = λ d lt. let called = at.1.after d lt in search rules;
    } in
    not_found_at ids_total c.args.rows.now sorted c.args.id at.0 edge c.in_ok-row.row.now (sym (ap option_copied c.in_ok-row.was) ∙ at.2) (λ tied. differing c.in_ok-row.row.now.0 c.args.id c.eq.result c.eq.ensures c.if-eq.false (exact_ids c.in_ok-row.row.now.0 c.args.id tied))
