-- How the answers to changes are judged.
use Rattle.std.specs.Prelude.{ℕ, Bool, false, ◌||◌, nat_eq, List, [], ◌∷◌, ◌++◌, bytes_eq, codes}
use Rattle.std.specs.Fmt.{decimal}
use Rattle.std.specs.List.{starts_with}
use Rattle.etcd_gateway.specs.Answers.{TransactionOutcome, Pair}

-- the first key has this value
abbrev pub has_value : List Pair → List ℕ → Bool
has_value [] value = false
has_value (pair ∷ pairs) value = bytes_eq pair.value value

-- the key that was read in place of the changes says what they write
abbrev pub is_held : TransactionOutcome → List ℕ → Bool
is_held outcome value = has_value outcome.found value

-- the changes were made now, or were made before
abbrev pub is_done : TransactionOutcome → List ℕ → Bool
is_done outcome value = outcome.done || is_held outcome value

-- a value of an owner's key that is of this lease, by whichever transaction
abbrev pub is_of : ℕ → List ℕ → Bool
is_of lease value = starts_with nat_eq value (decimal lease ++ codes " ")
