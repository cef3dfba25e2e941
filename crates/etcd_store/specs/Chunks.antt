-- The chunks of a segment, by the bytes at which they begin.
use Rattle.std.specs.Prelude.{◌≡◌, ℕ, ◌+◌, ◌-◌, ◌≤◌, Bool, false, ◌&&◌, ◌==◌, List, length, get_or, Option, Some, None, nat_lt, if◌then◌else◌}
use Rattle.etcd_gateway.specs.declared.keys.ChunkPlace.{ChunkPlace}

-- where the first so many chunks end: where the next begins, or 512 KiB behind the last one's begin at most
abbrev pub ends_at : ℕ → List ℕ → ℕ
ends_at count starts = if nat_lt count (length starts) then get_or starts count 0 else get_or starts (length starts - 1) 0 + 524288

-- the first so many chunks have 1 MiB together at most
abbrev pub FitsInOne : ℕ → List ℕ → Type 0
FitsInOne count starts = ends_at count starts - get_or starts 0 0 ≤ 1048576

-- it is the chunk of this segment that begins here, behind so many bytes
abbrev pub is_next : Option ChunkPlace → ℕ → ℕ → ℕ → Bool
is_next None segment start before = false
is_next (Some place) segment start before = (start == before && place.segment == segment) && place.chunk == before
