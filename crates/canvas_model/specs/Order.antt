-- The order of positions: that of their bytes, which is the order of their fractions.
use Rattle.std.specs.Prelude.{◌≡◌, ℕ, List, Option, Some, None}
use Rattle.std.specs.Ordering.{nat_cmp}
use Rattle.std.specs.Cmp.Lexicographic.{slice_cmp}
use Rattle.std.specs.declared.cmp.Ordering.TheVariants.{Less}
use Rattle.canvas_model.specs.Position.{IsPosition}

-- the first position comes before the second, byte by byte
abbrev pub IsBefore : List ℕ → List ℕ → Type 0
IsBefore p q = slice_cmp nat_cmp p q ≡ Less

-- the lower end, if there is one, comes before the position
abbrev pub IsLowEnd : Option (List ℕ) → List ℕ → Type 0
IsLowEnd None p = Unit {0}
IsLowEnd (Some low) p = IsBefore low p

-- the upper end, if there is one, comes after the position
abbrev pub IsHighEnd : Option (List ℕ) → List ℕ → Type 0
IsHighEnd None p = Unit {0}
IsHighEnd (Some high) p = IsBefore p high

-- the lower end is before the upper one in the order of bytes, where both are there
abbrev pub AreApart : Option (List ℕ) → Option (List ℕ) → Type 0
AreApart None high = Unit {0}
AreApart (Some low) high = IsHighEnd high low

-- a position strictly between the ends in the order of bytes, where a missing end leaves that side open
abbrev pub FitsBetween : Option (List ℕ) → Option (List ℕ) → List ℕ → Type 0
FitsBetween low high p = IsPosition p × IsLowEnd low p × IsHighEnd high p
