-- Why bytes are no name.
use Rattle.std.specs.Prelude.{◌≡◌, ℕ, ◌<◌, ◌≤◌, List, false, length}
use Rattle.std.specs.List.{list_all}
use Rattle.canvas_value.specs.Names.{IsName, is_name_byte}
use Rattle.canvas_value.specs.declared.names.NameError.{NameError}
use Rattle.canvas_value.specs.declared.names.NameError.TheVariants.{Empty, TooLong, BadByte, Memory}

-- each is asked for where the earlier ones don't hold; want of memory only at a name
abbrev pub IsNameError : List ℕ → NameError → Type 0
IsNameError bs Empty = length bs ≡ 0
IsNameError bs TooLong = 32 < length bs
IsNameError bs BadByte = (0 < length bs) × (length bs ≤ 32) × (list_all is_name_byte bs ≡ false)
IsNameError bs Memory = IsName bs
