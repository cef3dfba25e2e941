-- Lists kept in blocks.
use Rattle.std.specs.Prelude.{◌≡◌, ◌⊎◌, ℕ, ◌+◌, ◌-◌, ◌<◌, ◌≤◌, Bool, true, false, cond, nat_lt, List, Vec, length, map, take, slice_get, slice_index_or, slice_set, Option, Some, None}
use Rattle.std.specs.Option.{option_map_or}
use Rattle.std.specs.List.{flat_map, insert, remove, AllWithin}

-- an index where a test passes at the item before it and fails at the item there, if there are such items; `answers x b` says
-- that the test may answer b at x
pub record IsEdge {T : Type 0} (answers : T → Bool → Type 0) (xs : List T) (i : ℕ) : Type 0 where
  pub within : i ≤ length xs
  pub before : (d : T) → 0 < i → answers (slice_index_or xs (i - 1) d) true
  pub after : (d : T) → i < length xs → answers (slice_index_or xs i d) false

-- where an item comes that moves from index i to before the one at index j
abbrev pub goes_to : ℕ → ℕ → ℕ
goes_to i j = cond (nat_lt i j) (j - 1) j

-- the list with x before what stands at index j, and without the item at index i, if there is one
abbrev pub moved : {T : Type 0} → List T → ℕ → ℕ → T → List T
moved xs i j x = cond (nat_lt i (length xs)) (insert (remove xs i) (goes_to i j) x) xs

-- the pairs with this value in the one at index i, if there is one
abbrev pub with_value : {K V : Type 0} → List (K × V) → ℕ → V → List (K × V)
with_value pairs i value = option_map_or (λ pair. slice_set pairs i (pair.0, value)) (slice_get pairs i) pairs

-- the items of all blocks, one block after another
abbrev pub flat : {T A : Type 0} → List (Vec T A) → List T
flat = flat_map (λ b. b.items)

-- no block is empty
abbrev pub NoneEmpty : {T A : Type 0} → List (Vec T A) → Type 0
NoneEmpty {T} {A} bs = AllWithin (λ (b : Vec T A). 0 < length b.items) bs 0 (length bs)

-- how many items each block has
abbrev pub sizes : {T A : Type 0} → List (Vec T A) → List ℕ
sizes = map (λ b. length b.items)

-- there is an item at this offset of this block
pub record IsIn {T A : Type 0} (bs : List (Vec T A)) (block offset : ℕ) : Type 0 where
  pub block_in : block < length bs
  pub offset_in : (d : Vec T A) → offset < length (slice_index_or bs block d).items

-- how many items stand before it
abbrev pub index_of : {T A : Type 0} → List (Vec T A) → ℕ → ℕ → ℕ
index_of bs block offset = length (flat (take block bs)) + offset

-- there is an item there, or it is the end
abbrev pub IsPlace : {T A : Type 0} → List (Vec T A) → Option (ℕ × ℕ) → Type 0
IsPlace bs None = Unit {0}
IsPlace bs (Some at) = IsIn bs at.0 at.1

-- how many items stand before it
abbrev pub index_at : {T A : Type 0} → List (Vec T A) → Option (ℕ × ℕ) → ℕ
index_at bs None = length (flat bs)
index_at bs (Some at) = index_of bs at.0 at.1

-- a place is before another, or before the end
abbrev pub IsBefore : ℕ × ℕ → Option (ℕ × ℕ) → Type 0
IsBefore at None = Unit {0}
IsBefore at (Some to) = (at.0 < to.0) ⊎ (at.0 ≡ to.0) × (at.1 < to.1)

-- where the gap at index i is after the items after it that stand before index j came down
abbrev pub gap_below : ℕ → ℕ → ℕ
gap_below i j = cond (nat_lt i j) (j - 1) i

-- and where it is after the items before it, from index j on, went up
abbrev pub gap_from : ℕ → ℕ → ℕ
gap_from i j = cond (nat_lt j i) j i
