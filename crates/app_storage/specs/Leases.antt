-- The lease of a document in an etcd.
use Rattle.std.specs.Prelude.{ℕ, Bool, true, false, Option, Some, None, Result, Ok, Err, nat_lt, if◌then◌else◌}
use Rattle.etcd_store.specs.declared.error.StoreError.{StoreError}

-- for how many milliseconds its thread rests after a renewal, by what the etcd said and for how long the lease lasts: not once it has ended
abbrev pub rest_after : Result Bool StoreError → ℕ → Option ℕ
rest_after (Ok true) left = Some 3000
rest_after (Ok false) left = None
rest_after (Err error) left = if nat_lt 0 left then Some 500 else None
