-- The position half way between two ends.
use Rattle.std.specs.Prelude.{◌≡◌, ℕ, ◌+◌, ◌*◌, ◌/◌, ◌^◌, ◌<◌, ◌≤◌, List, length, All, Option, Some, None, MatchOption}
use Rattle.canvas_model.specs.Position.{IsDigitByte, IsPosition, IsSmaller, num}

-- a fraction, by its top and its bottom
pub record Fraction : Type 0 where
  pub top : ℕ
  pub bottom : ℕ

-- the first fraction is less than the second
abbrev pub IsLess : Fraction → Fraction → Type 0
IsLess a b = a.top * b.bottom < b.top * a.bottom

-- the fraction that a position stands for
abbrev pub fraction : List ℕ → Fraction
fraction s = record { top = num s (length s); bottom = 95 ^ length s }

-- the lower end, 0 where it is missing
abbrev pub lower : Option (List ℕ) → Fraction
lower None = record { top = 0; bottom = 1 }
lower (Some s) = fraction s

-- the upper end, 1 where it is missing
abbrev pub upper : Option (List ℕ) → Fraction
upper None = record { top = 1; bottom = 1 }
upper (Some s) = fraction s

-- both ends, where they are there, are in order as fractions
abbrev pub AreInOrder : Option (List ℕ) → Option (List ℕ) → Type 0
AreInOrder lo hi = MatchOption lo (Unit {0}) (λ s. MatchOption hi (Unit {0}) (λ t. IsSmaller s t))

-- m / 95^n lies strictly between the ends
pub record LiesBetween (lo hi : Option (List ℕ)) (n m : ℕ) : Type 0 where
  pub after : IsLess (lower lo) (record { top = m; bottom = 95 ^ n })
  pub before : IsLess (record { top = m; bottom = 95 ^ n }) (upper hi)

-- m is the least number of which P is true
pub record IsLeast (P : ℕ → Type 0) (m : ℕ) : Type 0 where
  pub holds : P m
  pub least : (k : ℕ) → P k → m ≤ k

-- m is the greatest number of which P is true
pub record IsGreatest (P : ℕ → Type 0) (m : ℕ) : Type 0 where
  pub holds : P m
  pub greatest : (k : ℕ) → P k → k ≤ m

-- nothing of this length lies between the ends
abbrev pub IsShut : Option (List ℕ) → Option (List ℕ) → ℕ → Type 0
IsShut lo hi n = (m : ℕ) → ¬ LiesBetween lo hi n m

-- p has the least length at which anything lies between the ends, and is half way between the least and the greatest there
pub record IsMiddle (lo hi : Option (List ℕ)) (p : List ℕ) : Type 0 where
  pub short : length p ≤ 128
  pub digits : All IsDigitByte p
  pub least_length : (n : ℕ) → n < length p → IsShut lo hi n
  pub least : ℕ
  pub greatest : ℕ
  pub is_least : IsLeast (LiesBetween lo hi (length p)) least
  pub is_greatest : IsGreatest (LiesBetween lo hi (length p)) greatest
  pub half_way : num p (length p) ≡ (least + greatest) / 2

-- what stands between the ends: the middle, or nothing where it would have more than 128 bytes
abbrev pub Middle : Option (List ℕ) → Option (List ℕ) → Option (List ℕ) → Type 0
Middle lo hi r = MatchOption r ((n : ℕ) → n ≤ 128 → IsShut lo hi n) (IsMiddle lo hi)

-- a position strictly between the ends as fractions
pub record IsInside (lo hi : Option (List ℕ)) (p : List ℕ) : Type 0 where
  pub position : IsPosition p
  pub after : AreInOrder lo (Some p)
  pub before : AreInOrder (Some p) hi
