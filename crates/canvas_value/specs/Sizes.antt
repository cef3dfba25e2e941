-- How many values stand in a value, itself among them.
use Rattle.std.specs.Prelude.{ℕ, suc, ◌+◌}
use Rattle.canvas_model.specs.Value.{Value, number, truth, colour, text, list, Values, no_more, more}

abbrev mutual
  pub value_size : Value → ℕ
  value_size (number n) = 1
  value_size (truth b) = 1
  value_size (colour c) = 1
  value_size (text s) = 1
  value_size (list vs) = suc (values_size vs)

  pub values_size : Values → ℕ
  values_size no_more = 0
  values_size (more v vs) = value_size v + values_size vs
