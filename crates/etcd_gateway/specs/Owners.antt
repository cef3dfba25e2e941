-- The values of owners' keys.
use Rattle.std.specs.Prelude.{◌≡◌, ℕ, ◌^◌, ◌<◌, List, ◌++◌, codes}
use Rattle.std.specs.Fmt.{decimal}

-- the number of the owner's lease, a space, and the number of the transaction
abbrev pub owner_value : ℕ → ℕ → List ℕ
owner_value lease number = decimal lease ++ codes " " ++ decimal number

-- a value is that of one owner and one transaction
abbrev pub EachValueIsOneTurn : Type 0
EachValueIsOneTurn = (lease number other_lease other_number : ℕ)
    → lease < 2 ^ 64 → number < 2 ^ 64 → other_lease < 2 ^ 64 → other_number < 2 ^ 64
    → owner_value lease number ≡ owner_value other_lease other_number → (lease ≡ other_lease) × (number ≡ other_number)
