-- Values as JSON.
use Rattle.std.specs.Prelude.{◌^◌, ◌&&◌, ℕ, ℤ, pos, negsuc, List, Bool, true, false, nat_lt, Option, Some, None, option_map, option_and_then, codes, if◌then◌else◌, bytes_eq}
use Rattle.serde_json.specs.Data as D
use Rattle.serde_json.specs.Data.{Num, unsigned, negative, float, Data, null, boolean, string, array, object, Items, no_items, item}
use Rattle.serde_json.specs.Find.{of_integer}
use Rattle.canvas_model.specs.Value.{Value, number, truth, colour, text, list, Values, no_more, more}
use Rattle.canvas_codec.specs.Codec.{Codec}
use Rattle.canvas_codec.specs.Parts.{whole_in, with_fit, text_of}
use Rattle.canvas_value.specs.Names.{is_name}
use Rattle.canvas_value.specs.Range.{fits}

-- the JSON tree of a value
abbrev mutual
  pub json : Value → Data
  json (number n) = D.number (of_integer n)
  json (truth b) = boolean b
  json (colour c) = array (item (string (codes "rgba")) (item (D.number (unsigned c)) no_items))
  json (text s) = string s
  json (list vs) = array (item (string (codes "list")) (jsons vs))

  pub jsons : Values → Items
  jsons no_more = no_items
  jsons (more v vs) = item (json v) (jsons vs)

-- a whole number of 64 bits, which is to be a signed one
abbrev pub integer_in : Num → Option (ℤ × Bool)
integer_in (unsigned n) = if nat_lt n (2 ^ 63) then Some (pos n, true) else Some (pos 0, false)
integer_in (negative (pos n)) = None
integer_in (negative (negsuc n)) = if nat_lt n (2 ^ 63) then Some (negsuc n, true) else Some (pos 0, false)
integer_in (float x) = None

-- the members of a colour's array after the first
abbrev pub colour_in : Items → Option (Value × Bool)
colour_in no_items = None
colour_in (item d no_items) = option_map (with_fit colour) (whole_in 0 4294967295 d)
colour_in (item d (item e ds)) = None

-- the value that a JSON tree is read as
abbrev mutual
  pub read : Data → Option (Value × Bool)
  read null = None
  read (boolean b) = Some (truth b, true)
  read (D.number n) = option_map (with_fit number) (integer_in n)
  read (string s) = Some (text s, true)
  read (array no_items) = None
  read (array (item null ds)) = None
  read (array (item (boolean b) ds)) = None
  read (array (item (D.number n) ds)) = None
  read (array (item (array es) ds)) = None
  read (array (item (object ms) ds)) = None
  read (array (item (string s) ds)) = if bytes_eq s (codes "rgba") then colour_in ds else (if bytes_eq s (codes "list") then option_map (with_fit list) (read_all ds) else None)
  read (object ms) = None

  pub read_all : Items → Option (Values × Bool)
  read_all no_items = Some (no_more, true)
  read_all (item d ds) = option_and_then (λ v. option_map (λ vs. (more v.0 vs.0, v.1 && vs.1)) (read_all ds)) (read d)

-- values, of which any text will do
abbrev pub value_form : Codec Value
value_form = record { write = json; sound = λ _. true; fits = fits; read = read }

-- names, as texts
abbrev pub name_form : Codec (List ℕ)
name_form = text_of is_name
