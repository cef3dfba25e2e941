-- Things of a form that meet a test besides.
use Rattle.std.specs.Prelude.{◌&&◌, Bool, Option, Some, None, if◌then◌else◌}
use Rattle.canvas_codec.specs.Codec.{Form}

-- what was read, unless it fails the test
abbrev pub kept : {X : Type 0} → (X → Bool) → Option (X × Bool) → Option (X × Bool)
kept test None = None
kept test (Some r) = if test r.0 then Some r else None

-- the form of those that meet the test
abbrev pub only : {D X : Type 0} → (X → Bool) → Form D X → Form D X
only test f = record { write = f.write; sound = λ x. f.sound x && test x; fits = f.fits; read = λ d. kept test (f.read d) }
