-- Ids as text.
use Rattle.std.specs.Prelude.{◌≡◌, ℕ, List, Some}
use Rattle.std.specs.Str.{IsUtf8}
use Rattle.serde_json.specs.Read.{read as read_text}
use Rattle.serde_json.specs.Written.{compact_text}
use Rattle.canvas_model.specs.declared.ObjId.{ObjId}
use Rattle.canvas_codec.specs.Codec.{Codec}
use Rattle.canvas_codec.specs.Parts.{array_of, each}
use Rattle.canvas_forms.specs.Ids.{id_form}

-- `[[client,counter],..]`
abbrev pub ids_form : Codec (List ObjId)
ids_form = array_of (each id_form)

-- what is written of ids: their text, which reads as their JSON tree again
pub record EncodesIds (bytes : List ℕ) (ids : List ObjId) : Type 0 where
  pub text : bytes ≡ compact_text (ids_form.write ids)
  pub utf8 : IsUtf8 bytes
  pub reads_back : read_text bytes ≡ Some (ids_form.write ids)
