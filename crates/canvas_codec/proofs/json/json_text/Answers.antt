use Rattle.std.proofs.Common.{◌≤◌, Some, ap, sym, subst, ◌∙◌, arith}
use Rattle.std.proofs.lemmas.Result.{IfOk-weaker}
use Rattle.serde_json.specs.Data as D
use Rattle.serde_json.specs.Written.{has_float, compact_text}
use Rattle.canvas_codec.proofs.Texts.{no_float, nests}
use Rattle.canvas_codec.proofs.json.json_text.Goals as goal

pub returns-clause-text : goal.returns-clause-text
returns-clause-text g c =
    let same = c.in_ok-to_json.ensures.json_tree in
    IfOk-weaker c.to_string.result _ _ (λ s text. text (ap has_float same ∙ no_float c.args.value.now) ∙ ap compact_text same) c.to_string.ensures.text

pub returns-clause-reads_back : goal.returns-clause-reads_back
returns-clause-reads_back g c small =
    let same = c.in_ok-to_json.ensures.json_tree in
    IfOk-weaker c.to_string.result _ _ (λ s back. back (subst (λ d. D.depth d ≤ 127) (sym same) (omega (arith, nests c.args.value.now, small))) ∙ ap Some same) c.to_string.ensures.reads_back
