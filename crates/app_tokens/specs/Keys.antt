-- What a key is, and a file of keys.
use Rattle.std.specs.Prelude.{ℕ, ◌+◌, ◌-◌, Bool, not, ◌&&◌, ◌||◌, ◌==◌, nat_le, nat_lt, List, codes, length, take, slice_index, if◌then◌else◌, Option, None, Some}
use Rattle.std.specs.List.{list_all, position}
use Rattle.std.specs.declared.result.Result.{Result}
use Rattle.std.specs.declared.result.Result.TheVariants.{Ok, Err}
use Rattle.app_tokens.specs.declared.keys.KeysError.{KeysError}
use Rattle.app_tokens.specs.declared.keys.KeysError.TheVariants.{TooLong, NotAKey}
use Rattle.app_tokens.specs.Parts.{words_of}

-- a hex digit, in lower or upper case
abbrev pub is_hex_digit : ℕ → Bool
is_hex_digit b = (nat_le 48 b && nat_le b 57) || ((nat_le 97 b && nat_le b 102) || (nat_le 65 b && nat_le b 70))

-- 64 hex digits
abbrev pub is_key : List ℕ → Bool
is_key text = length text == 64 && list_all is_hex_digit text

-- the most bytes of a file of keys: 16 lines with their line feeds
abbrev pub most_file_bytes : ℕ
most_file_bytes = 1040

-- the text without the line feed at its end, if it has one
abbrev pub without_last_feed : List ℕ → List ℕ
without_last_feed text = if slice_index text (length text - 1) == 10 then take (length text - 1) text else text

-- the lines of a text: its last line may have a line feed or none
abbrev pub lines_of : List ℕ → List (List ℕ)
lines_of text = words_of (codes "\n") (without_last_feed text)

-- lines are keys, unless there is a first line that is none, which is counted from 1
abbrev pub keys_of_lines : List (List ℕ) → Option ℕ → Result (List (List ℕ)) KeysError
keys_of_lines lines None = Ok lines
keys_of_lines lines (Some i) = Err (NotAKey (i + 1))

-- the keys in a text: none in one that is too long, or that has a line that is no key
abbrev pub keys_in : List ℕ → Result (List (List ℕ)) KeysError
keys_in text =
    if nat_lt most_file_bytes (length text) then Err TooLong
    else keys_of_lines (lines_of text) (position (λ line. not (is_key line)) (lines_of text))
