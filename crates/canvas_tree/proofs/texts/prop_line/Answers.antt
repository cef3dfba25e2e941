use Rattle.std.proofs.Common.{◌∙◌}
use Rattle.std.proofs.lemmas.Result.{IfOk-weaker}
use Rattle.canvas_tree.proofs.Lines.{prop_is}
use Rattle.canvas_tree.proofs.texts.prop_line.Goals as goal

pub returns : goal.returns
returns g c = IfOk-weaker c.format.result _ _ (λ s h. h ∙ prop_is c.args.level c.args.prop.now _ _ _ c.in_ok-blanks.ensures.text c.as_str-name.ensures c.in_ok-value.ensures.text) c.format.ensures.ok
