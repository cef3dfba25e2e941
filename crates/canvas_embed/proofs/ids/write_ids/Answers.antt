use Rattle.std.proofs.Common.{map, ap, ◌∙◌, arith}
use Rattle.std.proofs.lemmas.List.{take_all}
use Rattle.serde_json.specs.Data.{array}
use Rattle.serde_json.specs.View.{items_of}
use Rattle.canvas_forms.specs.Ids.{id_form}
use Rattle.canvas_forms.proofs.Members.{each_view}
use Rattle.canvas_embed.proofs.ids.write_ids.Goals as goal

pub returns : goal.returns
returns c =
    let whole = take_all c.loop-id.id-index c.args.ids.now (omega arith) in
    c.from-json.ensures ∙ ap (λ ds. array (items_of ds)) (c.loop-id.invariant ∙ ap (map id_form.write) whole) ∙ ap array (each_view id_form.write c.args.ids.now)
