-- What a handle owns.
use base.Fml.{Fml, ftrue}
use denote.RawPtr.{Ptr}
use Rattle.std.specs.Prelude.{ℕ, Option, Some, None}
use Rattle.std.specs.Box.Ownership.{box_owns}
use Rattle.libc.specs.Heap.{chunk}
use Rattle.canvas_c.specs.contracts.session.Session.{the_row}
use Rattle.canvas_c.specs.declared.session.Session.{Session}

-- nothing, or the box of this session
abbrev pub kept_owns : Ptr → Option Session → Fml
kept_owns at None = ftrue
kept_owns at (Some session) = box_owns chunk the_row at session
