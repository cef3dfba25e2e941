use Rattle.std.proofs.Common.{◌↔◌, IsTrue, IfOk, sym, ap, subst, ◌∙◌}
use Rattle.canvas_model.specs.Local.{GoesTooDeep}
use Rattle.canvas_client.specs.Asked.{seen_edit_request}
use Rattle.canvas_client.proofs.drafting.goes_too_deep.Goals as goal

pub returns-in-Move : goal.returns-in-Move
returns-in-Move g c =
    subst (λ r. IfOk c.moves_too_deep.result (λ deep. IsTrue deep ↔ GoesTooDeep c.args.view.now r)) (sym (ap seen_edit_request c.in-Move.is) ∙ c.variant.ensures.variant) c.moves_too_deep.ensures
