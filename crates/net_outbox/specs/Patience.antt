-- When a peer is too slow.
use Rattle.std.specs.Prelude.{◌≡◌, ◌⊎◌, ℕ, ◌-◌, ◌<◌, ◌≤◌, Option, None, Some}
use Rattle.net_outbox.specs.declared.patience.Span.{Span}

-- eight seconds have passed since a span began, or none has begun
abbrev pub IsOver : Option Span → ℕ → Type 0
IsOver None now = Unit {0}
IsOver (Some s) now = 8000 ≤ now - s.at

-- nothing has left since it began, or fewer bytes than these though more than 256 KiB waited then and wait now
abbrev pub TakesTooLittle : Span → ℕ → ℕ → ℕ → Type 0
TakesTooLittle s taken waiting least = (taken - s.taken ≡ 0) ⊎ ((taken - s.taken < least) × (262144 < s.waiting) × (262144 < waiting))

-- something waits, a span is over, and too little has left in it
abbrev pub IsSlow : Option Span → ℕ → ℕ → ℕ → ℕ → Type 0
IsSlow None now taken waiting least = ⊥
IsSlow (Some s) now taken waiting least = (0 < waiting) × (8000 ≤ now - s.at) × TakesTooLittle s taken waiting least
