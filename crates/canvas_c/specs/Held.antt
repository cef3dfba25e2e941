-- What a call says of the session that a handle holds.
use Rattle.std.specs.Prelude.{◌≡◌, ℕ, Option, Some, None}
use Rattle.canvas_c.specs.declared.session.Session.{Session}
use Rattle.canvas_c.specs.Numbers.{no_client}

-- this of the session that is held before and the one that is held after; or none is held before and after, and this
abbrev pub OnHeld : (Session → Session → Type 0) → Type 0 → Option Session → Option Session → Type 0
OnHeld Holds Without (Some old) (Some new) = Holds old new
OnHeld Holds Without None None = Without
OnHeld Holds Without _ _ = ⊥

-- the same of a call that makes an object: without a session there is none, and what is told of it stays as it was
abbrev pub OnHeldMaking : {Id : Type 0} → (Session → Session → Type 0) → ℕ → Id → Id → Option Session → Option Session → Type 0
OnHeldMaking Holds answer made made' = OnHeld Holds ((answer ≡ no_client) × (made' ≡ made))
