use Rattle.std.proofs.Common.{ap, sym, ◌∙◌}
use Rattle.std.specs.Option.{option_and_then, option_copied}
use Rattle.canvas_doc.proofs.Doc.place_of.Goals as goal

pub returns : goal.returns
returns g c = c.place.ensures ∙ sym (ap (option_and_then (λ o. o.place)) (sym c.in_ok-object.ensures.object))

pub returns-in_err-object : goal.returns-in_err-object
returns-in_err-object g c = ap option_copied c.from_residual.ensures ∙ sym (ap (option_and_then (λ o. o.place)) (sym c.in_err-object.ensures.object))
