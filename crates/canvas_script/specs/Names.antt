-- The names of nodes, and the numbers that a script gives them.
use Rattle.std.specs.Prelude.{◌≡◌, ◌≢◌, ℕ, ◌<◌, ◌≤◌, ◌&&◌, ◌||◌, nat_le, Bool, true, List, [], ◌∷◌, ◌++◌, length, codes, bytes_eq, Some, if◌then◌else◌}
use Rattle.std.specs.List.{list_all, list_any}
use Rattle.canvas_model.specs.Numbered.{nth}

-- one of `a` to `z`, or a digit
abbrev pub is_node_byte : ℕ → Bool
is_node_byte b = (nat_le 97 b && nat_le b 122) || (nat_le 48 b && nat_le b 57)

-- 1 to 16 of these, but not the word `server`
abbrev pub IsNodeName : List ℕ → Type 0
IsNodeName name = (0 < length name) × (length name ≤ 16) × (list_all is_node_byte name ≡ true) × (name ≢ codes "server")

-- whether the name was used before
abbrev pub is_used : List (List ℕ) → List ℕ → Bool
is_used names name = list_any (bytes_eq name) names

-- the names after the use of this one: where it is new, it comes last
abbrev pub names_after_use : List (List ℕ) → List ℕ → List (List ℕ)
names_after_use names name = if is_used names name then names else names ++ name ∷ []

-- the number is the name's rank among the names, from 1
abbrev pub IsNumber : List (List ℕ) → List ℕ → ℕ → Type 0
IsNumber names name k = nth names k ≡ Some name

-- each is a node's name, and none stands twice
pub record AreNames (names : List (List ℕ)) : Type 0 where
  pub each : (k : ℕ) (name : List ℕ) → IsNumber names name k → IsNodeName name
  pub once : (i k : ℕ) (name : List ℕ) → IsNumber names name i → IsNumber names name k → i ≡ k
