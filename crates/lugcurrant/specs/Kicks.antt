-- What is told of connections that an operator ends.
use Rattle.std.specs.Prelude.{ℕ, List, [], ◌∷◌, ◌++◌, codes, Option}
use Rattle.std.specs.Io.KnownBytes.{Appends}

-- it was written that a server has taken this file
abbrev pub WritesTaken : List ℕ → (written after : Option (List ℕ)) → Type 0
WritesTaken file written after = Appends written after (codes "the server has taken " ++ file ++ 10 ∷ [])
