use Rattle.std.proofs.Common.{ℕ, zero, suc, List, [], ◌∷◌, ◌++◌, refl, ap, sym, subst, ◌∙◌, append_assoc, arith}
use Rattle.std.specs.FinMap as map
use Rattle.std.specs.Str.{IsAscii, IsUtf8}
use Rattle.std.proofs.lemmas.Str.{IsUtf8-append, IsUtf8-from_ascii, IsUtf8-string_bytes}
use Rattle.std.proofs.lemmas.Str.Ascii.{IsAscii-nil}
use Rattle.serde_json.specs.Read.{read}
use Rattle.canvas_model.specs.Messages as messages
use Rattle.canvas_codec.specs.Parts.{each_written}
use Rattle.canvas_forms.specs.Version.{version_two}
use Rattle.canvas_forms.specs.Rows.{row_form}
use Rattle.canvas_forms.proofs.Plain.{plain_back}
use Rattle.canvas_wire.specs.Messages.{message_json}
use Rattle.canvas_wire.proofs.Texts.{message_nests}
use Rattle.canvas_wire.proofs.CopyTexts.{copy_whole, copy_plain}
use Rattle.canvas_wire.proofs.copies.encode_copy_start.Goals as goal

bracket : IsAscii (93 ∷ [])
bracket zero = omega arith
bracket (suc i) = IsAscii-nil i

pub returns : goal.returns
returns c = λ doc rows encodes.
    let version = c.args.version in
    let done = c.args.done in
    let bytes = c.into_bytes-start.result.items in
    let start = ap (λ v. v.items) c.into_bytes-start.ensures.value in
    let text = copy_whole version done (each_written row_form.write (map.entries doc)) bytes (bytes ++ rows) ((bytes ++ rows) ++ 93 ∷ []) (bytes ++ (rows ++ 93 ∷ [])) (start ∙ c.in_ok-copy_start.ensures.text)
    (ap (λ (r : List ℕ). bytes ++ r) encodes.text) refl (sym (append_assoc bytes rows (93 ∷ []))) in
    let copy = messages.Copy version done doc in
    let utf8_start = subst IsUtf8 (sym start) (IsUtf8-string_bytes c.in_ok-copy_start.field-0) in
    record {
      text = text;
      utf8 = IsUtf8-append bytes (rows ++ 93 ∷ []) utf8_start (IsUtf8-append rows (93 ∷ []) encodes.utf8 (IsUtf8-from_ascii (93 ∷ []) bracket));
      sound = rw encodes.sound refl;
      orderly = encodes.orderly;
      reads_back = λ small. ap read text ∙ plain_back (message_json version_two copy) (copy_plain version done doc c.copy_start.ensures.version c.copy_start.ensures.done encodes.in_range) (message_nests version_two copy small);
    }
