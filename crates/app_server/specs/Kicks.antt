-- How connections are named that an operator ends.
use Rattle.std.specs.Prelude.{ℕ, List, [], ◌∷◌, ◌++◌}
use Rattle.std.specs.Fmt.{decimal}
use Rattle.std.specs.List.{flat_map}

-- the text that names these: their numbers, one a line
abbrev pub kick_text : List ℕ → List ℕ
kick_text numbers = flat_map (λ n. decimal n ++ 10 ∷ []) numbers
