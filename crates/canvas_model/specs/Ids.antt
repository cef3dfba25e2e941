-- Object ids: who made the object, and which of theirs it is.
use Rattle.std.specs.Prelude.{Bool, ◌<◌, ◌^◌}
use Rattle.std.specs.Ordering.{nat_cmp, on, then_cmp, eq_by_cmp}
use Rattle.std.specs.declared.cmp.Ordering.{Ordering}
use Rattle.canvas_model.specs.declared.ObjId.{ObjId}

-- the id of the root
abbrev pub root : ObjId
root = record { client = 0; counter = 0 }

-- ids are ordered by client, then counter
abbrev pub id_cmp : ObjId → ObjId → Ordering
id_cmp = then_cmp (on (λ i. i.client) nat_cmp) (on (λ i. i.counter) nat_cmp)

-- the two ids are one
abbrev pub same_id : ObjId → ObjId → Bool
same_id = eq_by_cmp id_cmp

-- client and counter are numbers of 32 bits
abbrev pub IsId : ObjId → Type 0
IsId id = (id.client < 2 ^ 32) × (id.counter < 2 ^ 32)
