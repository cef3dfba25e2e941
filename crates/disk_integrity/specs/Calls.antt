-- The calls of a shelf as numbers.
use Rattle.std.specs.Prelude.{◌≡◌, ℕ}
use Rattle.disk_integrity.specs.declared.call.ShelfCall.{ShelfCall}
use Rattle.disk_integrity.specs.declared.call.ShelfCall.TheVariants.{List, Read, Create, Append, Sync, Retire}

-- which call it is
abbrev pub call_code : ShelfCall → ℕ
call_code List = 1
call_code (Read n) = 2
call_code (Create n) = 3
call_code (Append n) = 4
call_code (Sync n) = 5
call_code (Retire n) = 6

-- the segment that it is about, or 0
abbrev pub segment_of_call : ShelfCall → ℕ
segment_of_call List = 0
segment_of_call (Read n) = n
segment_of_call (Create n) = n
segment_of_call (Append n) = n
segment_of_call (Sync n) = n
segment_of_call (Retire n) = n

-- it is about this segment, or about none
abbrev pub IsAbout : ShelfCall → ℕ → Type 0
IsAbout List n = Unit {0}
IsAbout (Read m) n = m ≡ n
IsAbout (Create m) n = m ≡ n
IsAbout (Append m) n = m ≡ n
IsAbout (Sync m) n = m ≡ n
IsAbout (Retire m) n = m ≡ n
