-- Positions and places as JSON.
use Rattle.std.specs.Prelude.{◌&&◌, ◌-◌, ℕ, List, Bool, length, nat_lt, nat_le, nat_eq, not, slice_index_or}
use Rattle.std.specs.List.{list_all}
use Rattle.canvas_model.specs.Document.{Place}
use Rattle.canvas_pos.specs.declared.PosError.{PosError}
use Rattle.canvas_pos.specs.declared.PosError.TheVariants.{Empty, TooLong, BadByte, TrailingZero, Memory}
use Rattle.canvas_codec.specs.declared.json_fault.JsonFault.{JsonFault}
use Rattle.canvas_codec.specs.declared.json_fault.JsonFault.TheVariants as json
use Rattle.canvas_codec.specs.Codec.{Codec}
use Rattle.canvas_codec.specs.Parts.{via, text_of, array_of, member, end}
use Rattle.canvas_forms.specs.Ids.{id_form}

-- a byte that stands for a digit
abbrev pub is_digit : ℕ → Bool
is_digit b = nat_le 32 b && nat_le b 126

-- 1 to 128 digits, the last of which isn't 0
abbrev pub is_position : List ℕ → Bool
is_position s = nat_lt 0 (length s) && (nat_le (length s) 128 && (list_all is_digit s && not (nat_eq (slice_index_or s (length s - 1) 32) 32)))

-- the bytes of the position, as a text
abbrev pub pos_form : Codec (List ℕ)
pos_form = text_of is_position

-- what a fault of a position is answered as
abbrev pub pos_fault : PosError → JsonFault
pos_fault Memory = json.Memory
pos_fault Empty = json.NotAValue
pos_fault TooLong = json.NotAValue
pos_fault (BadByte i) = json.NotAValue
pos_fault TrailingZero = json.NotAValue

-- `[parent,position]`
abbrev pub place_form : Codec Place
place_form = via (λ p. record { parent = p.0; pos = p.1.0 }) (λ place. (place.parent, (place.pos, tt))) (array_of (member id_form (member pos_form end)))
