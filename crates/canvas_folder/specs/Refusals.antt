-- Why a file wasn't made, as a number.
use Rattle.std.specs.Prelude.{ℕ, ◌+◌, ◌-◌, ◌==◌, min, Option, Some, None, if◌then◌else◌}
use Rattle.canvas_folder.specs.declared.space.SpaceRefusal.{SpaceRefusal}
use Rattle.canvas_folder.specs.declared.space.SpaceRefusal.TheVariants.{NoSpace, NoDescriptor}

-- the number of a reason: one more than the bytes that are missing, and the highest where no descriptor is left
abbrev pub code_of : SpaceRefusal → ℕ
code_of (NoSpace missing) = min missing 18446744073709551613 + 1
code_of NoDescriptor = 18446744073709551615

-- the reason of a number; none of 0
abbrev pub refusal_of : ℕ → Option SpaceRefusal
refusal_of code = if code == 0 then None else if code == 18446744073709551615 then Some NoDescriptor else Some (NoSpace (code - 1))
