use Rattle.canvas_codec.proofs.Laws.{value_is}
use Rattle.canvas_codec.proofs.JsonOne.{json_one}
use Rattle.canvas_codec.proofs.Texts.{spells_one}
use Rattle.canvas_value.proofs.NameText.{IsName-from, is_name-from}
use Rattle.canvas_codec.proofs.json.every_spelling.Goals as goal

pub returns : goal.returns
returns c = record { json_tree = json_one; text = spells_one; form = value_is; name = λ bytes. (IsName-from bytes, is_name-from bytes) }
