-- Objects by two numbers.
use Rattle.std.specs.Prelude.{ℕ, Option, Some, None, ◌==◌, ◌&&◌, if◌then◌else◌}
use Rattle.canvas_model.specs.declared.ObjId.{ObjId}
use Rattle.canvas_model.specs.Local.{Target}
use Rattle.canvas_c.specs.declared.ids.ObjectId.{ObjectId}

-- the object of these numbers
abbrev pub object : ℕ → ℕ → ObjId
object client counter = record { client = client; counter = counter }

-- the object that C was told of
abbrev pub object_told : ObjectId → ObjId
object_told id = object id.client id.counter

-- the child to come after: none where both numbers are 0
unfoldable pub after_of : ℕ → ℕ → Option ObjId
after_of client counter = if (client == 0) && (counter == 0) then None else (Some (object client counter))

-- under this parent, after this child
abbrev pub target_of : ℕ → ℕ → ℕ → ℕ → Target
target_of client counter after_client after_counter = record { parent = object client counter; after = after_of after_client after_counter }
