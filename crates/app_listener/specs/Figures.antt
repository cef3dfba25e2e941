-- How often checkpoints are made, and what they keep.
use Rattle.std.specs.Prelude.{ℕ, ◌≤◌, ◌⊎◌, ◌-◌, max, min}

-- A checkpoint is due at a version no lower than this one, where the entries since the last take as many bytes as it did, and are 256 or
-- take 1 MiB.
abbrev pub IsDue : ℕ → ℕ → ℕ → ℕ → ℕ → Type 0
IsDue version until last bytes last_bytes = (until ≤ version) × (last_bytes ≤ bytes) × ((256 ≤ version - last) ⊎ (1048576 ≤ bytes))

-- the most entries that a checkpoint of so many objects keeps
abbrev pub entries_kept : ℕ → ℕ
entries_kept objects = max objects 256

-- the most bytes of their texts: as many as the last checkpoint took, but no fewer than 1 MiB and no more than 16 MiB
abbrev pub bytes_kept : ℕ → ℕ
bytes_kept last = min (max last 1048576) 16777216
