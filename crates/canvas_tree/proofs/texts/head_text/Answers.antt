use Rattle.std.proofs.Common.{◌∙◌, ap}
use Rattle.std.proofs.lemmas.Result.{IfOk-weaker}
use Rattle.canvas_tree.specs.Shapes.{Label, Branch}
use Rattle.canvas_tree.specs.Texts.{head_text}
use Rattle.canvas_tree.proofs.Lines.{placed_head, bare_head}
use Rattle.canvas_tree.proofs.texts.head_text.Goals as goal

pub returns-in-Some : goal.returns-in-Some
returns-in-Some g c =
    let l : Label = record { id = c.tree.inside.id; kind = c.tree.inside.kind; pos = c.tree.inside.pos; props = c.tree.inside.props.items } in
    IfOk-weaker c.format.result _ _ (λ s h. h ∙ placed_head l c.in-Some.pos _ c.in-Some.is c.as_str-pos.ensures ∙ ap (λ (b : Branch). head_text b.label) c.tree.view_is) c.format.ensures.ok

pub returns-in-None : goal.returns-in-None
returns-in-None g c =
    let l : Label = record { id = c.tree.inside.id; kind = c.tree.inside.kind; pos = c.tree.inside.pos; props = c.tree.inside.props.items } in
    IfOk-weaker c.format-in-None.result _ _ (λ s h. h ∙ bare_head l c.in-None.is ∙ ap (λ (b : Branch). head_text b.label) c.tree.view_is) c.format-in-None.ensures.ok
