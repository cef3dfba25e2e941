-- The errors of a store.
use Rattle.std.specs.Prelude.{ℕ, Bool, true, false, nat_lt, if◌then◌else◌}
use Rattle.etcd_gateway.specs.declared.answers.GatewayRefusal.{GatewayRefusal}
use Rattle.etcd_gateway.specs.declared.answers.GatewayRefusal.TheVariants.{Rights, Space, Other}
use Rattle.etcd_store.specs.declared.error.StoreError.{StoreError}
use Rattle.etcd_store.specs.declared.error.StoreError.TheVariants.{Unreachable, Unanswered, Refused, TlsWanted, NoSpace, Damaged, Lost, Memory}

-- the number of an error, from 1, in the order of refusal
abbrev pub error_code : StoreError → ℕ
error_code Unreachable = 1
error_code Unanswered = 2
error_code Refused = 3
error_code TlsWanted = 4
error_code NoSpace = 5
error_code Damaged = 6
error_code Lost = 7
error_code Memory = 8

-- the error that a refusal is
abbrev pub error_of_refusal : GatewayRefusal → StoreError
error_of_refusal Rights = Refused
error_of_refusal Space = NoSpace
error_of_refusal Other = Unanswered

-- after these errors no other endpoint is asked
abbrev pub is_final : StoreError → Bool
is_final Refused = true
is_final NoSpace = true
is_final Memory = true
is_final Unreachable = false
is_final Unanswered = false
is_final TlsWanted = false
is_final Damaged = false
is_final Lost = false

-- of two errors the one that is later in the order of refusal
abbrev pub more_telling : StoreError → StoreError → StoreError
more_telling a b = if nat_lt (error_code a) (error_code b) then b else a
