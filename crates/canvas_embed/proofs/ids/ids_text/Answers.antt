use Rattle.std.proofs.Common.{◌≤◌, Some, ap, sym, subst, ◌∙◌, arith}
use Rattle.serde_json.specs.Data as D
use Rattle.serde_json.specs.Written.{has_float, compact_text}
use Rattle.canvas_forms.proofs.Texts.{ids_nest, ids_no_float}
use Rattle.canvas_embed.specs.Ids.{ids_form}
use Rattle.canvas_embed.proofs.ids.ids_text.Goals as goal

pub returns : goal.returns
returns c =
    let same = c.in_ok-write_ids.ensures in
    let few = ids_nest c.args.ids.now in
    let low : D.depth (ids_form.write c.args.ids.now) ≤ 127 = omega arith in
    record {
      text = c.in_ok-text.ensures.text (ap has_float same ∙ ids_no_float c.args.ids.now) ∙ ap compact_text same;
      utf8 = c.in_ok-text.ensures.utf8;
      reads_back = c.in_ok-text.ensures.reads_back (subst (λ d. D.depth d ≤ 127) (sym same) low) ∙ ap Some same;
    }
