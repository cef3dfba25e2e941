-- What a read gives of the bytes that were fetched from a stream.
use Rattle.std.specs.Prelude.{ℕ, List, ◌++◌, Option, Some, Result}
use Rattle.std.specs.Io.KnownBytes.{Consumes, ReadConsumes}

-- more bytes came from the stream behind those that were fetched, and of all these a read gave the first
abbrev pub ReadsFetched : {E : Type 0} → List ℕ → Option (List ℕ) → List ℕ → Option (List ℕ) → Result ℕ E → List ℕ → Type 0
ReadsFetched old known new rest r buf = (more : List ℕ) × Consumes known rest more × ReadConsumes (Some (old ++ more)) (Some new) r buf
