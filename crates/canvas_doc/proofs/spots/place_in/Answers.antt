use Rattle.std.proofs.Common.{◌∙◌, sym, ap}
use Rattle.std.specs.Option.{option_and_then, option_copied}
use Rattle.std.specs.FinMap as map
use Rattle.canvas_model.specs.Ids.{id_cmp}
use Rattle.canvas_model.specs.Document.{Object}
use Rattle.canvas_doc.proofs.spots.place_in.Goals as goal

pub returns-in_err-object_of : goal.returns-in_err-object_of
returns-in_err-object_of g c sorted =
    ap option_copied c.from_residual.ensures
    ∙ ap (option_and_then (λ (o : Object). o.place)) (c.in_err-object_of.ensures sorted ∙ sym (map.get-from_sorted id_cmp c.args.rows.now c.args.id sorted))

pub returns : goal.returns
returns g c sorted =
    c.place.ensures
    ∙ ap (option_and_then (λ (o : Object). o.place)) (c.in_ok-object_of.ensures sorted ∙ sym (map.get-from_sorted id_cmp c.args.rows.now c.args.id sorted))
