-- What contracts see of an outbox.
use Rattle.std.specs.Prelude.{◌≡◌, ℕ, ◌+◌, List, ◌++◌, length, Option, min}
use Rattle.std.specs.Io.KnownBytes.{Appends, append_known}
use Rattle.net_outbox.specs.declared.outbox.Outbox.{Outbox}

-- the bytes that wait, those that are shared among them
abbrev pub waiting_bytes : {S : Type 0} → Outbox S → List ℕ
waiting_bytes o = o.unsent

module _ {S : Type 0} (contents : S → Option (List ℕ)) where
  -- the bytes that the stream holds, and then those that wait, where the former are known
  abbrev pub contents_of : Outbox S → Option (List ℕ)
  contents_of o = append_known (contents o.stream) (waiting_bytes o)

  -- the stream took a front of what waited, and that was counted
  abbrev pub Leaves : Outbox S → Outbox S → Type 0
  Leaves old new =
      (front : List ℕ) × (waiting_bytes old ≡ front ++ waiting_bytes new) × Appends (contents old.stream) (contents new.stream) front
      × (new.taken ≡ min (old.taken + length front) 18446744073709551615)
