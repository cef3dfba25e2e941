use Rattle.std.proofs.Common.{Some, ap, sym, ◌∙◌}
use Rattle.std.specs.Option.{option_map}
use Rattle.canvas_doc.proofs.Doc.kind_of.Goals as goal

pub returns : goal.returns
returns g c = ap Some c.kind.ensures ∙ sym (ap (option_map (λ o. o.kind)) (sym c.in_ok-object.ensures.object))

pub returns-in_err-object : goal.returns-in_err-object
returns-in_err-object g c = c.from_residual.ensures ∙ sym (ap (option_map (λ o. o.kind)) (sym c.in_err-object.ensures.object))
