-- The nine constant texts are those that the wire has for a No.
use Rattle.std.proofs.Common.{ℕ, List, codes, refl}
use Rattle.std.specs.Fmt.{digits}
use Rattle.serde_json.proofs.OnLiterals.{serde_json_on_literals}
use Rattle.canvas_model.specs.Messages.{No}
use Rattle.canvas_judge.specs.declared.message.NoReason.{NoReason}
use Rattle.canvas_judge.specs.declared.message.NoReason.TheVariants.{Stranger, Repeat, Gap, Full, Device, Failed, Memory, TooLarge, NotRead}
use Rattle.canvas_judge.specs.Reasons.{number_of}
use Rattle.canvas_wire.specs.Text.{EncodesMessage}

abbrev pub text_of : NoReason → List ℕ
text_of Stranger = codes "[\"no\",1]"
text_of Repeat = codes "[\"no\",2]"
text_of Gap = codes "[\"no\",3]"
text_of Full = codes "[\"no\",4]"
text_of Device = codes "[\"no\",5]"
text_of Failed = codes "[\"no\",6]"
text_of Memory = codes "[\"no\",7]"
text_of TooLarge = codes "[\"no\",8]"
text_of NotRead = codes "[\"no\",9]"

pub encodes : (reason : NoReason) → EncodesMessage (text_of reason) (No (number_of reason))
unfolding serde_json_on_literals digits
encodes Stranger = record { text = refl; utf8 = (text_of Stranger, (refl, refl)); sound = refl; orderly = refl; reads_back = λ _. refl }
encodes Repeat = record { text = refl; utf8 = (text_of Repeat, (refl, refl)); sound = refl; orderly = refl; reads_back = λ _. refl }
encodes Gap = record { text = refl; utf8 = (text_of Gap, (refl, refl)); sound = refl; orderly = refl; reads_back = λ _. refl }
encodes Full = record { text = refl; utf8 = (text_of Full, (refl, refl)); sound = refl; orderly = refl; reads_back = λ _. refl }
encodes Device = record { text = refl; utf8 = (text_of Device, (refl, refl)); sound = refl; orderly = refl; reads_back = λ _. refl }
encodes Failed = record { text = refl; utf8 = (text_of Failed, (refl, refl)); sound = refl; orderly = refl; reads_back = λ _. refl }
encodes Memory = record { text = refl; utf8 = (text_of Memory, (refl, refl)); sound = refl; orderly = refl; reads_back = λ _. refl }
encodes TooLarge = record { text = refl; utf8 = (text_of TooLarge, (refl, refl)); sound = refl; orderly = refl; reads_back = λ _. refl }
encodes NotRead = record { text = refl; utf8 = (text_of NotRead, (refl, refl)); sound = refl; orderly = refl; reads_back = λ _. refl }
