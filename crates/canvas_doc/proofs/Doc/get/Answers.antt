use Rattle.std.proofs.Common.{ap, sym, ◌∙◌}
use Rattle.std.specs.Option.{option_and_then, option_copied}
use Rattle.std.specs.FinMap as map
use Rattle.canvas_doc.proofs.Doc.get.Goals as goal

pub returns : goal.returns
returns g c = c.get.ensures ∙ sym (ap (option_and_then (λ o. map.get o.props c.args.name.now)) (sym c.in_ok-object.ensures.object))

pub returns-in_err-object : goal.returns-in_err-object
returns-in_err-object g c = ap option_copied c.from_residual.ensures ∙ sym (ap (option_and_then (λ o. map.get o.props c.args.name.now)) (sym c.in_err-object.ensures.object))
