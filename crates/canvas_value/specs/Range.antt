-- The numbers that a value may hold.
use Rattle.std.specs.Prelude.{◌^◌, ◌&&◌, ℕ, pos, negsuc, Bool, true, nat_lt, nat_le}
use Rattle.canvas_model.specs.Value.{Value, number, truth, colour, text, list, Values, no_more, more}

-- the number is one from low to high
abbrev pub is_within : ℕ → ℕ → ℕ → Bool
is_within low high n = nat_le low n && nat_le n high

-- the numbers that a value may hold
abbrev mutual
  pub fits : Value → Bool
  fits (number (pos n)) = nat_lt n (2 ^ 63)
  fits (number (negsuc n)) = nat_lt n (2 ^ 63)
  fits (truth b) = true
  fits (colour c) = is_within 0 4294967295 c
  fits (text s) = true
  fits (list vs) = all_fit vs

  pub all_fit : Values → Bool
  all_fit no_more = true
  all_fit (more v vs) = fits v && all_fit vs
