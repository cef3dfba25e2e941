use Rattle.std.proofs.Common.{◌≡◌, ◌≤◌, true, Some, ap, sym, subst, ◌∙◌}
use Rattle.std.specs.FinMap as map
use Rattle.serde_json.specs.Data as D
use Rattle.serde_json.specs.Written.{has_float, compact_text}
use Rattle.canvas_model.specs.Document.{Doc}
use Rattle.canvas_forms.specs.Rows.{rows_form}
use Rattle.canvas_forms.specs.RowOrder.{are_in_order}
use Rattle.canvas_embed.specs.Saves.{saved_form, saved_parts_of}
use Rattle.canvas_embed.proofs.Saved.{saved_no_float, saved_nests, each_shallow, stands_written}
use Rattle.canvas_embed.proofs.saves.save.Goals as goal

pub returns : goal.returns
returns c =
    let client = c.args.client.now in let same = c.in_ok-write_client.ensures in let shown = c.view.ensures.view in let all = each_shallow client.waiting c.know_waiting.ensures in
    let sound = subst (λ (d : Doc). rows_form.sound (map.entries d) ≡ true) shown c.sound_doc.ensures.sound in
    let fits = subst (λ (d : Doc). rows_form.fits (map.entries d) ≡ true) shown c.sound_doc.ensures.in_range in
    let ordered = subst (λ (d : Doc). are_in_order (rows_form.write (map.entries d)) ≡ true) shown c.sound_doc.ensures.orderly in
    record {
      text = c.in_ok-text.ensures.text (ap has_float same ∙ saved_no_float client) ∙ ap compact_text same;
      back = λ shallow. (
        saved_form.write (saved_parts_of client),
        (c.in_ok-text.ensures.utf8, c.in_ok-text.ensures.reads_back (subst (λ d. D.depth d ≤ 127) (sym same) (saved_nests client (all, shallow))) ∙ ap Some same),
        (stands_written client c.know_waiting.ensures c.know_numbers.ensures sound fits ordered, (all, shallow)),
      );
    }
