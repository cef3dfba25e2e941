-- Where the last chunk ends that was put.
use Rattle.std.specs.Prelude.{ℕ, Bool, ◌&&◌, ◌||◌, ◌==◌, nat_lt, nat_le, List}
use Rattle.std.specs.List.{list_any}
use Rattle.canvas_etcd.specs.declared.store.Standing.{Standing}

-- a segment that stands reaches this end of a segment: it is that one, with as many bytes at least, or one above it
abbrev pub reaches : ℕ → ℕ → Standing → Bool
reaches segment size s = nat_lt segment s.number || (s.number == segment && nat_le size s.size)

-- one of the segments that stand reaches it
abbrev pub is_reached : ℕ → ℕ → List Standing → Bool
is_reached segment size = list_any (reaches segment size)
