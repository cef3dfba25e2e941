use Rattle.std.proofs.Common.{rules}
use Rattle.std.proofs.lemmas.Fn.{always_returns_same}
use Rattle.serde_json.specs.View.{view}
use Rattle.canvas_forms.specs.RowOrder.{head_in, is_after}
use Rattle.canvas_forms.proofs.RowHeads.{after_answer}
use Rattle.canvas_forms.proofs.order.are_after.Goals as goal

pub returns : goal.returns
returns c = after_answer c.args.rows.now _ (c.is_sorted_by.ensures.cases (λ v w. is_after (head_in (view v)) (head_in (view w))) (always_returns_same _ _ _ (λ a r f' called. (search rules, search rules))))
