-- What a reading of a JSON tree says of the bytes, for every form.
use Rattle.std.proofs.Common.{◌≡◌, ℕ, List, Bool, true, false, Option, Some, unwrap_or, refl, ap, sym, subst, ◌∙◌}
use Rattle.serde_json.specs.Data.{Data}
use Rattle.canvas_codec.specs.Shape.{shape}
use Rattle.canvas_codec.specs.Codec.{Codec, HasShape, StandsFor, IsOutOfRange, IsCodec}
use Rattle.canvas_codec.proofs.Forms.{first, stands_for, reads_what_stands, out_of_range, no_shape}
use Rattle.canvas_codec.specs.Faults.{RefusesShape}
use Rattle.canvas_codec.specs.declared.json_fault.JsonFault.{JsonFault}
use Rattle.canvas_codec.specs.declared.json_fault.JsonFault.TheVariants as value
use Rattle.canvas_wire.specs.Faults.{refusal, IsJson, Means, IsTextOf, IsJsonFault, IsWireError, IsNotJson}
use Rattle.canvas_wire.specs.declared.fault.WireError.{WireError}
use Rattle.canvas_wire.specs.declared.fault.WireError.TheVariants.{NotJson, NotAMessage, OutOfRange, TooDeep, Memory}

-- the bytes have one JSON tree
pub same_json : (bytes : List ℕ) (d e : Data) → IsJson bytes d → IsJson bytes e → d ≡ e
same_json bytes d e h k = ap (λ (o : Option Data). unwrap_or o d) (sym h.1 ∙ k.1)

-- what is proved of every kind of thing of which one JSON tree is at most one thing, and whose JSON trees have its shape
module _ {X : Type 0} (IsShaped : Data → Type 0) (IsJsonOf : Data → X → Type 0) (S : X → Type 0) (one : (d : Data) (x y : X) → IsJsonOf d x → IsJsonOf d y → x ≡ y) (shaped : (d : Data) (x : X) → IsJsonOf d x → IsShaped d) where
  pub spells_one : (bytes : List ℕ) (d : Data) (x y : X) → IsJson bytes d → Means IsJsonOf S d x → IsTextOf IsJsonOf S bytes y → x ≡ y
  spells_one bytes d x y j m t = one d x y m.0 (subst (λ e. IsJsonOf e y) (same_json bytes t.0 d t.1 j) t.2.0)

  pub spells_same : (bytes : List ℕ) (x y : X) → IsTextOf IsJsonOf S bytes x → IsTextOf IsJsonOf S bytes y → x ≡ y
  spells_same bytes x y t u = spells_one bytes t.0 x y t.1 t.2 u

  -- a fault of the JSON tree is one of the bytes
  pub bytes_fault : (bytes : List ℕ) (d : Data) (e : WireError) → IsJson bytes d → IsJsonFault IsShaped IsJsonOf S d e → IsWireError IsShaped IsJsonOf S bytes e
  bytes_fault bytes d NotJson j f = absurd f
  bytes_fault bytes d NotAMessage j f = (d, j, f)
  bytes_fault bytes d OutOfRange j f = (d, j, f)
  bytes_fault bytes d TooDeep j f = (d, f.0, j, f.1, f.2)
  bytes_fault bytes d Memory j f = tt

  pub json_fault : (bytes : List ℕ) (e : WireError) → IsNotJson bytes e → IsWireError IsShaped IsJsonOf S bytes e
  json_fault bytes NotJson f = f
  json_fault bytes NotAMessage f = absurd f
  json_fault bytes OutOfRange f = absurd f
  json_fault bytes TooDeep f = absurd f
  json_fault bytes Memory f = tt

  -- what is a text of something is refused for want of memory alone
  pub only_memory : (bytes : List ℕ) (x : X) (e : WireError) → IsTextOf IsJsonOf S bytes x → IsWireError IsShaped IsJsonOf S bytes e → e ≡ Memory
  only_memory bytes x NotJson t f = absurd (f t.0 t.1)
  only_memory bytes x NotAMessage t f = absurd (f.2 (shaped f.0 x (subst (λ e. IsJsonOf e x) (same_json bytes t.0 f.0 t.1 f.1) t.2.0)))
  only_memory bytes x OutOfRange t f = absurd (f.2.1 x (subst (λ e. IsJsonOf e x) (same_json bytes t.0 f.0 t.1 f.1) t.2.0))
  only_memory bytes x TooDeep t f = absurd (f.4 (subst S (one f.0 x f.1 (subst (λ e. IsJsonOf e x) (same_json bytes t.0 f.0 t.1 f.2) t.2.0) f.3) t.2.1))
  only_memory bytes x Memory t f = refl

-- what a reading by a form says of the JSON tree
module _ {X : Type 0} (c : Codec X) (h : IsCodec c) (S : X → Type 0) where
  pub stands_one : (d : Data) (x y : X) → StandsFor c d x → StandsFor c d y → x ≡ y
  stands_one d x y s t = first (sym (reads_what_stands c h d x s) ∙ reads_what_stands c h d y t)

  pub stands_shaped : (d : Data) (x : X) → StandsFor c d x → HasShape c d
  stands_shaped d x s = (x, s.0, ap shape s.2)

  -- what a fault of the shape says of the JSON tree
  pub shape_fault : (d : Data) (f : JsonFault) → RefusesShape (c.read d) f → IsJsonFault (HasShape c) (StandsFor c) S d (refusal f)
  shape_fault d value.NotAValue e = no_shape c h d e
  shape_fault d value.OutOfRange e = absurd e
  shape_fault d value.Memory e = tt

  pub means : (d : Data) (x : X) (b : Bool) → c.read d ≡ Some (x, b) → b ≡ true → S x → Means (StandsFor c) S d x
  means d x b e f s = (stands_for c h d x (e ∙ ap (λ (t : Bool). Some (x, t)) f), s)

  pub is_out : (d : Data) (x : X) (b : Bool) → c.read d ≡ Some (x, b) → b ≡ false → IsOutOfRange c d
  is_out d x b e f = out_of_range c h d x (e ∙ ap (λ (t : Bool). Some (x, t)) f)

  pub is_deep : (d : Data) (x : X) (b : Bool) → c.read d ≡ Some (x, b) → b ≡ true → (S x → ⊥) → IsJsonFault (HasShape c) (StandsFor c) S d TooDeep
  is_deep d x b e f s = (x, stands_for c h d x (e ∙ ap (λ (t : Bool). Some (x, t)) f), s)
