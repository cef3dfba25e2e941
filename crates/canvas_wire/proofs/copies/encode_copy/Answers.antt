use Rattle.std.proofs.Common.{refl, ap, sym, subst, ◌∙◌}
use Rattle.std.specs.FinMap as map
use Rattle.std.specs.Str.{IsUtf8}
use Rattle.std.proofs.lemmas.Str.{IsUtf8-string_bytes}
use Rattle.serde_json.specs.Read.{read}
use Rattle.canvas_codec.specs.Parts.{each_written}
use Rattle.canvas_judge.specs.Seen.{seen_copy}
use Rattle.canvas_forms.specs.Version.{version_two}
use Rattle.canvas_forms.specs.Rows.{row_form}
use Rattle.canvas_forms.proofs.Plain.{plain_back}
use Rattle.canvas_wire.specs.Messages.{message_json}
use Rattle.canvas_wire.proofs.Texts.{message_nests}
use Rattle.canvas_wire.proofs.CopyTexts.{copy_whole, copy_plain}
use Rattle.canvas_wire.proofs.copies.encode_copy.Goals as goal

pub returns : goal.returns
returns g c =
    let copy = c.args.copy.now in
    let rows = each_written row_form.write (map.entries copy.doc) in
    let bytes = ap (λ v. v.items) c.into_bytes.ensures.value in
    let text = copy_whole copy.version copy.done rows _ _ _ c.into_bytes.result.items c.in_ok-text.ensures.text c.in_ok-push_rows.ensures c.in_ok-push_str.ensures.bytes bytes in
    record {
      text = text;
      utf8 = subst IsUtf8 (sym bytes) (IsUtf8-string_bytes c.push_str.new.self);
      sound = rw c.sound_doc.ensures.sound refl;
      orderly = c.sound_doc.ensures.orderly;
      reads_back = λ small. ap read text ∙ plain_back (message_json version_two (seen_copy copy)) (copy_plain copy.version copy.done copy.doc c.copy_start.ensures.version c.copy_start.ensures.done c.sound_doc.ensures.in_range) (message_nests version_two (seen_copy copy) small);
    }
