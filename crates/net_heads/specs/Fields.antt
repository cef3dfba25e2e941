-- The fields of a message's head, by their names.
use Rattle.std.specs.Prelude.{◌≡◌, ℕ, ◌<◌, Bool, List, [], ◌∷◌, length, map, filter}
use Rattle.std.specs.Str.{str_eq_ignore_ascii_case}
use Rattle.httparse.specs.Spans.{header_bytes}
use Rattle.net_heads.specs.declared.Fields as declared
use Rattle.net_heads.specs.declared.Values as values
use Rattle.net_heads.specs.declared.Values.TheVariants.{Nothing, One, Several}

-- the names of fields with their values, in order
abbrev pub NamesAndValues : Type 0
NamesAndValues = List (List ℕ × List ℕ)

-- the same word, whether its letters are upper or lower case
abbrev pub is_same_word : List ℕ → List ℕ → Bool
is_same_word a b = str_eq_ignore_ascii_case a b

-- the field has this name
abbrev pub has_name : List ℕ → List ℕ × List ℕ → Bool
has_name name field = is_same_word field.0 name

-- the values of the fields of this name
abbrev pub values_named : List ℕ → NamesAndValues → List (List ℕ)
values_named name fields = map (λ field. field.1) (filter (has_name name) fields)

-- what contracts see of the fields of a head
abbrev pub seen_fields : declared.Fields → NamesAndValues
seen_fields fields = map (header_bytes fields.bytes.now) fields.spans.now

-- what was found under a name, of its values
abbrev pub IsFoundUnderName : values.Values → List (List ℕ) → Type 0
IsFoundUnderName Nothing found = found ≡ []
IsFoundUnderName (One value) found = found ≡ value.now ∷ []
IsFoundUnderName Several found = 1 < length found
