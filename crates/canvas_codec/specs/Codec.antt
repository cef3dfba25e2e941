-- What has a form in JSON, and what it is for a JSON tree to have that form.
use Rattle.std.specs.Prelude.{◌≡◌, ℕ, List, Bool, true, Option, Some, is_some}
use Rattle.serde_json.specs.Data.{Data, Items}
use Rattle.canvas_codec.specs.Shape.{shape, shapes}

-- a form that things of a type X have in D, which is JSON trees or the members of an array
pub record Form (D X : Type 0) : Type 0 where
  -- what a thing is written as
  pub write : X → D
  -- whether its texts are of the kind that they are to be
  pub sound : X → Bool
  -- whether its whole numbers are in range
  pub fits : X → Bool
  -- what is read, and whether its whole numbers were in range: 0 stands for one that wasn't
  pub read : D → Option (X × Bool)

-- as a JSON tree
abbrev pub Codec : Type 0 → Type 0
Codec X = Form Data X

-- as the members of an array from some index on
abbrev pub Members : Type 0 → Type 0
Members X = Form Items X

-- as an array that begins with a word, and its other members
abbrev pub Worded : Type 0 → Type 0
Worded X = Form (List ℕ × Items) X

-- the JSON tree is that of a thing, but for its whole numbers
abbrev pub HasShape : {X : Type 0} → Codec X → Data → Type 0
HasShape {X} c d = (x : X) × (c.sound x ≡ true) × (shape (c.write x) ≡ shape d)

-- the JSON tree is that of this thing, whose whole numbers are in range
abbrev pub StandsFor : {X : Type 0} → Codec X → Data → X → Type 0
StandsFor c d x = (c.sound x ≡ true) × (c.fits x ≡ true) × (c.write x ≡ d)

-- the JSON tree has the shape, and some whole number is out of range
abbrev pub IsOutOfRange : {X : Type 0} → Codec X → Data → Type 0
IsOutOfRange {X} c d = HasShape c d × ((x : X) → StandsFor c d x → ⊥)

-- what is written is read, and nothing else is, where `form` puts 0 in place of each whole number
pub record IsForm {D X : Type 0} (form : D → D) (f : Form D X) : Type 0 where
  pub back : (x : X) → f.sound x ≡ true → f.fits x ≡ true → f.read (f.write x) ≡ Some (x, true)
  pub exact : (d : D) (x : X) → f.read d ≡ Some (x, true) → f.write x ≡ d
  pub in_range : (d : D) (x : X) → f.read d ≡ Some (x, true) → f.fits x ≡ true
  pub in_kind : (d : D) (x : X) (b : Bool) → f.read d ≡ Some (x, b) → f.sound x ≡ true
  pub same : (d : D) (x : X) (b : Bool) → f.read d ≡ Some (x, b) → form (f.write x) ≡ form d
  pub shaped : (d : D) (x : X) → f.sound x ≡ true → form (f.write x) ≡ form d → is_some (f.read d) ≡ true

-- the shape of an array that begins with a word: the word stays
abbrev pub word_shape : List ℕ × Items → List ℕ × Items
word_shape p = (p.0, shapes p.1)

-- a form as a JSON tree
abbrev pub IsCodec : {X : Type 0} → Codec X → Type 0
IsCodec c = IsForm shape c

-- a form as the members of an array
abbrev pub AreMembers : {X : Type 0} → Members X → Type 0
AreMembers r = IsForm shapes r

-- a form as an array that begins with a word
abbrev pub IsWorded : {X : Type 0} → Worded X → Type 0
IsWorded w = IsForm word_shape w
