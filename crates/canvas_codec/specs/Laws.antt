-- The laws of forms, of the parts that they are put together from, and of the JSON of values. Each is a clause of a function of empty body.
use Rattle.std.specs.Prelude.{◌≡◌, ◌↔◌, ℕ, List, Bool, true, false, Some, None, bytes_eq}
use Rattle.serde_json.specs.Data.{Data, null}
use Rattle.canvas_model.specs.Value.{Value}
use Rattle.canvas_codec.specs.Codec.{Form, Codec, Members, Worded, HasShape, StandsFor, IsOutOfRange, IsForm, IsCodec, AreMembers, IsWorded}
use Rattle.canvas_codec.specs.Parts.{whole, text_of, word, via, maybe, end, member, each, array_of, headed, after, choice}
use Rattle.canvas_codec.specs.Json.{json}
use Rattle.canvas_value.specs.Names.{IsName, is_name}
use Rattle.canvas_codec.specs.Text.{Spells}

-- a thing is read, all its whole numbers in range, exactly where the JSON tree stands for it
abbrev pub EachReadStands : Type 0 → Type 0
EachReadStands X = (c : Codec X) → IsCodec c → (d : Data) (x : X) → (c.read d ≡ Some (x, true)) ↔ StandsFor c d x

-- where a number that was read is out of range, the JSON tree has the shape, and stands for nothing
abbrev pub EachReadOutOfRange : Type 0 → Type 0
EachReadOutOfRange X = (c : Codec X) → IsCodec c → (d : Data) (x : X) → c.read d ≡ Some (x, false) → IsOutOfRange c d

-- where nothing is read, the JSON tree hasn't the shape
abbrev pub EachUnreadHasNoShape : Type 0 → Type 0
EachUnreadHasNoShape X = (c : Codec X) → IsCodec c → (d : Data) → c.read d ≡ None → ¬ HasShape c d

-- whole numbers with a range are a form
abbrev pub WholesAreForms : Type 0
WholesAreForms = (low high : ℕ) → IsCodec (whole low high)

-- texts that meet a test are a form
abbrev pub TextsAreForms : Type 0
TextsAreForms = (test : List ℕ → Bool) → IsCodec (text_of test)

-- each word is a form
abbrev pub WordsAreForms : Type 0
WordsAreForms = (w : List ℕ) → IsCodec (word w)

-- what comes to the same as the things of a form has a form
abbrev pub OthersAreForms : Type 0 → Type 0 → Type 0 → Type 0
OthersAreForms D X Y = (form : D → D) (to : X → Y) (from : Y → X) (f : Form D X) → IsForm form f
    → ((y : Y) → to (from y) ≡ y) → ((x : X) → f.sound x ≡ true → from (to x) ≡ x) → IsForm form (via to from f)

-- null, or what isn't written as null
abbrev pub MaybesAreForms : Type 0 → Type 0
MaybesAreForms X = (c : Codec X) → IsCodec c → ((x : X) → ¬ (c.write x ≡ null)) → IsCodec (maybe c)

-- the end of an array
abbrev pub EndIsForm : Type 0
EndIsForm = AreMembers end

-- a member of an array, and those after it
abbrev pub MembersAreForms : Type 0 → Type 0 → Type 0
MembersAreForms X Y = (c : Codec X) (r : Members Y) → IsCodec c → AreMembers r → AreMembers (member c r)

-- the rest of an array, of members of one form
abbrev pub RestsAreForms : Type 0 → Type 0
RestsAreForms X = (c : Codec X) → IsCodec c → AreMembers (each c)

-- arrays
abbrev pub ArraysAreForms : Type 0 → Type 0
ArraysAreForms X = (r : Members X) → AreMembers r → IsCodec (array_of r)

-- arrays that begin with a word
abbrev pub WordedAreForms : Type 0 → Type 0
WordedAreForms X = (w : Worded X) → IsWorded w → AreMembers (headed w)

-- a word, and what comes after it
abbrev pub OneWordIsForm : Type 0 → Type 0
OneWordIsForm X = (v : List ℕ) (r : Members X) → AreMembers r → IsWorded (after v r)

-- a word and what comes after it, or what begins with another word
abbrev pub ChoicesAreForms : Type 0 → Type 0 → Type 0
ChoicesAreForms X Y = (v : List ℕ) (r : Members X) (w : Worded Y) → AreMembers r → IsWorded w
    → ((y : Y) → bytes_eq (w.write y).0 v ≡ false) → IsWorded (choice v r w)

-- two values with one JSON tree are one
abbrev pub JsonIsOfOne : Type 0
JsonIsOfOne = (v w : Value) → json v ≡ json w → v ≡ w

-- a text spells one value at most
abbrev pub TextsSpellOne : Type 0
TextsSpellOne = (text : List ℕ) (v w : Value) → Spells text v → Spells text w → v ≡ w

-- names are the bytes that pass the test of their form
abbrev pub NamesPassTest : Type 0
NamesPassTest = (bytes : List ℕ) → (is_name bytes ≡ true) ↔ IsName bytes
