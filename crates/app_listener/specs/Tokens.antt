-- Which number an event of a connection is reported under: no two connections share one, and no two of what is waited for.
use Rattle.std.specs.Prelude.{ℕ}
use Rattle.app_listener.specs.declared.tokens.Stage.{Stage}
use Rattle.app_listener.specs.declared.tokens.Stage.TheVariants as stage

-- its place among the four numbers of its connection, of which the port's is the first
abbrev pub place_of : Stage → ℕ
place_of stage.Head = 1
place_of stage.Answer = 2
place_of stage.End = 3
