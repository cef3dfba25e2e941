-- The lines of sums.
use Rattle.std.specs.Prelude.{◌≡◌, ◌<◌, ◌≤◌, ◌≢◌, ◌^◌, ℕ, List, [], ◌∷◌, ◌++◌, length, take, codes}
use Rattle.std.specs.Fmt.{decimal}
use Rattle.std.specs.List.{AllByRecursion, flat_map}
use Rattle.hex.specs.Hex.{encode_lower}
use Rattle.sha2.specs.Sha256.{sha256}

-- how many bytes these are, in decimal, a space, and their SHA-256 in hex
abbrev pub sum_text : List ℕ → List ℕ
sum_text bytes = decimal (length bytes) ++ codes " " ++ encode_lower (sha256 bytes)

-- the same as a line
abbrev pub sum_line : List ℕ → List ℕ
sum_line bytes = sum_text bytes ++ 10 ∷ []

-- no line ends in these bytes
abbrev pub HasNoEnd : List ℕ → Type 0
HasNoEnd = AllByRecursion (λ b. b ≢ 10)

-- these lines with their ends
abbrev pub with_ends : List (List ℕ) → List ℕ
with_ends = flat_map (λ line. line ++ 10 ∷ [])

-- the line tells this length, and behind it 64 bytes
pub record Names (line : List ℕ) (n : ℕ) (digest : List ℕ) : Type 0 where
  pub is : line ≡ decimal n ++ codes " " ++ digest
  pub small : n < 2 ^ 64
  pub long : length digest ≡ 64

-- One behind the other, these are the lines of beginnings of the segment, each as long as the one before or longer. The last has this length.
pub data AreSums (segment : List ℕ) : List (List ℕ) → ℕ → Type 0 where
  none : AreSums segment [] 0
  more : (lines : List (List ℕ)) (n m : ℕ) → AreSums segment lines n → n ≤ m → m ≤ length segment → AreSums segment (lines ++ sum_text (take m segment) ∷ []) m
