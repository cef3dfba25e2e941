-- A store in memory, as what it stands for.
use Rattle.std.specs.Prelude.{ℕ, Bool, List}
use Rattle.canvas_shelf.specs.Memory.{synced_disk}
use Rattle.canvas_etcd.specs.Stores.{Stored}
use Rattle.memory_store.specs.Failing.{store_call_fails}
use Rattle.memory_store.specs.Held.{held_content, lost_of, disk_after, stored_each}
use Rattle.memory_store.specs.declared.store.MemStore.{MemStore}

-- what stands, and what may stand yet
abbrev pub store_value : MemStore → Stored
store_value m = record { held = held_content m.held.items; unanswered = lost_of m.lost; disk = disk_after m.notes.items (synced_disk (held_content m.base.items)) }

-- what it was before each call that may have changed it
abbrev pub store_past : MemStore → List Stored
store_past m = stored_each m.notes.items (held_content m.base.items) m.past.items

-- whether the call after so many others is to fail
abbrev pub store_will_fail : MemStore → ℕ → Bool
store_will_fail m n = store_call_fails m.failing n

abbrev pub store_failures : MemStore → ℕ
store_failures m = m.failures

abbrev pub owner_of : MemStore → Bool
owner_of m = m.owner
