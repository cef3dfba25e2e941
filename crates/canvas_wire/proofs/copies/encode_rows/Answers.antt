use Rattle.std.proofs.Common.{ℕ, List, ◌++◌, ap, sym, subst, ◌∙◌}
use Rattle.std.specs.FinMap as map
use Rattle.std.specs.Str.{IsUtf8}
use Rattle.std.proofs.lemmas.Str.{IsUtf8-string_bytes}
use Rattle.serde_json.specs.Written.{compact_text}
use Rattle.canvas_forms.specs.Rows.{rows_form}
use Rattle.canvas_wire.proofs.copies.encode_rows.Goals as goal

pub returns : goal.returns
returns g c =
    let bytes = ap (λ v. v.items) c.into_bytes.ensures.value in
    let rows = compact_text (rows_form.write (map.entries c.args.doc.now)) in
    record {
      text = bytes ∙ c.in_ok-push_rows.ensures ∙ ap (λ (before : List ℕ). before ++ rows) c.new-text.ensures.bytes;
      utf8 = subst IsUtf8 (sym bytes) (IsUtf8-string_bytes c.push_rows.new.text);
      sound = c.sound_doc.ensures.sound;
      in_range = c.sound_doc.ensures.in_range;
      orderly = c.sound_doc.ensures.orderly;
    }
