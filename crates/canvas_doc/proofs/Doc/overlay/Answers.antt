use Rattle.std.proofs.Common.{sym, ap, ◌∙◌, Some}
use Rattle.std.proofs.lemmas.Result.{on_ok_weaker}
use Rattle.canvas_doc.specs.Seen.{seen}
use Rattle.canvas_model.specs.Ids.{root}
use Rattle.canvas_model.specs.Document.{Place, revise, new_object}
use Rattle.canvas_doc.proofs.Laid.{laid_there, laid_root, laid_new, ids_same, ids_differ}
use Rattle.canvas_doc.proofs.Doc.overlay.Goals as goal
use Rattle.canvas_doc.proofs.Doc.overlay.Goals.{then-eq-via-then-eq, then-eq-via-else-eq+then-has}

pub returns-then-eq-clause-ok : goal.returns-then-eq-clause-ok
returns-then-eq-clause-ok g c = elim c.then-eq.branch [
  | then-eq-via-then-eq w ↦ laid_root c.args.self.now c.args.change.now c.in-Create.id c.in-Create.kind c.in-Create.place (sym c.variant.ensures.variant ∙ ap seen c.in-Create.is) (ids_same c.in-Create.id root w.if-eq.ensures)
  | then-eq-via-else-eq+then-has w ↦ laid_there c.args.self.now c.args.change.now c.in-Create.id c.in-Create.kind c.in-Create.place (sym c.variant.ensures.variant ∙ ap seen c.in-Create.is) (sym w.has.ensures ∙ w.if-has.true)
]

pub returns-in_ok-place-in-Create-clause-ok : goal.returns-in_ok-place-in-Create-clause-ok
returns-in_ok-place-in-Create-clause-ok g c = on_ok_weaker c.put_object.result (λ is.
    laid_new c.args.self.now c.put_object.new.self c.args.change.now c.in-Create.id c.in-Create.kind c.in-Create.place (sym c.variant.ensures.variant ∙ ap seen c.in-Create.is) (sym c.has.ensures ∙ c.if-has.false) (ids_differ c.in-Create.id root c.if-eq.ensures)
    (is ∙ ap (λ (p : Place). revise c.args.self.now c.in-Create.id (Some (new_object c.in-Create.kind (Some p)))) c.in_ok-place-in-Create.ensures)) c.put_object.ensures.ok
