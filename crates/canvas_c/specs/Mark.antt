-- The mark of a handle.
use Rattle.std.specs.Prelude.{ℕ}

-- the number of the bytes `lugcurra`
abbrev pub mark_of_a_session : ℕ
mark_of_a_session = 7815266405241221729
