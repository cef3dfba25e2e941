-- Kinds by their numbers.
use Rattle.std.specs.Prelude.{ℕ, Option, Some, None, ◌==◌, if◌then◌else◌}
use Rattle.canvas_model.specs.declared.Kind.{Kind}
use Rattle.canvas_model.specs.declared.Kind.TheVariants.{Page, Frame, Shape, Text}

-- the kind of this number, if one has it
abbrev pub kind_of_number : ℕ → Option Kind
kind_of_number n = if n == 1 then Some Page else (if n == 2 then Some Frame else (if n == 3 then Some Shape else (if n == 4 then Some Text else None)))
