-- How much has passed, and when a stream pauses.
use Rattle.std.specs.Prelude.{◌≡◌, ℕ, ◌+◌, ◌≤◌, Bool, false, min}
use Rattle.net_idle.specs.declared.frames.Frames.{Frames}
use Rattle.net_idle.specs.Frames.{AreWhole}

-- it stands between two messages, and no write has failed
abbrev pub MayPause : Frames → Bool → Type 0
MayPause frames failed = AreWhole frames × (failed ≡ false)

-- it may pause, and 256 KiB or more have passed
abbrev pub IsDue : Frames → Bool → ℕ → Type 0
IsDue frames failed passed = MayPause frames failed × (262144 ≤ passed)

-- with so many bytes more; it counts no further than to the last number of 64 bits
abbrev pub counted : ℕ → ℕ → ℕ
counted passed n = min (passed + n) 18446744073709551615
