-- Lists whose elements are counted from 1.
use Rattle.std.specs.Prelude.{ℕ, zero, suc, List, Option, None, slice_get}

-- the element of this number, counted from 1
abbrev pub nth : {X : Type 0} → List X → ℕ → Option X
nth xs zero = None
nth xs (suc i) = slice_get xs i
