-- The plain value that a variant stands for: its text by the bytes, its list by the members.
use Rattle.std.specs.Prelude.{string_bytes}
use Rattle.canvas_model.specs.Value.{Value, number, truth, colour, text, list, values_of}
use Rattle.canvas_value.specs.declared.ValueVariant.{ValueVariant}
use Rattle.canvas_value.specs.declared.ValueVariant.TheVariants as V

abbrev pub seen : {A : Type 0} → ValueVariant A → Value
seen (V.Number n) = number n
seen (V.Truth b) = truth b
seen (V.Colour c) = colour c
seen (V.Text s) = text (string_bytes s)
seen (V.List v) = list (values_of v.items)
