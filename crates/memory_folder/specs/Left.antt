-- What a crash leaves that keeps this much.
use Rattle.std.specs.Prelude.{ℕ, ◌+◌, ◌-◌, min, Bool, true, false, if◌then◌else◌, Option, Some, None, unwrap_or, List, [], ◌∷◌, length, take, map}
use Rattle.canvas_folder.specs.Names.{same}
use Rattle.canvas_folder.specs.Files.{File, Files, Left}

-- how many unsynced bytes of this file are to stay, if it is named
abbrev pub asked_to_stay : List ℕ → List (List ℕ × ℕ) → Option ℕ
asked_to_stay name [] = None
asked_to_stay name (k ∷ keep) = if same k.0 name then Some k.1 else asked_to_stay name keep

-- how many bytes were synced
abbrev pub synced_size : Option (List ℕ) → ℕ
synced_size None = 0
synced_size (Some front) = length front

-- how many bytes stay, where so many unsynced ones are asked for
abbrev pub size_with : Option (List ℕ) → List ℕ → ℕ → ℕ
size_with synced bytes more = synced_size synced + min more (length bytes - synced_size synced)

-- the same, where the name's being there isn't certain: none where it is missing
abbrev pub size_if : Option (List ℕ) → List ℕ → Option ℕ → Option ℕ
size_if synced bytes None = None
size_if synced bytes (Some more) = Some (size_with synced bytes more)

-- how many bytes of a file stay; none where it is missing
abbrev pub size_staying : Bool → Bool → Option (List ℕ) → List ℕ → Option ℕ → Option ℕ
size_staying false sure synced bytes asked = None
size_staying true true synced bytes asked = Some (size_with synced bytes (unwrap_or asked 0))
size_staying true false synced bytes asked = size_if synced bytes asked

-- a name with so many of its bytes in front of these, if it is there
abbrev pub file_in_front : Option ℕ → List ℕ → List ℕ → Left → Left
file_in_front None name bytes rest = rest
file_in_front (Some size) name bytes rest = (name, take size bytes) ∷ rest

-- what a crash leaves that keeps this much
abbrev pub files_left_by : List (List ℕ × ℕ) → List File → Left
files_left_by keep [] = []
files_left_by keep (f ∷ fs) = file_in_front (size_staying f.there f.sure f.synced f.bytes (asked_to_stay f.name keep)) f.name f.bytes (files_left_by keep fs)

-- a file of which all is certain
abbrev pub certain_file : List ℕ × List ℕ → File
certain_file p = record { name = p.0; there = true; sure = true; again = false; synced = Some p.1; bytes = p.1 }

-- the folder after a crash that left this
abbrev pub after_crash : Left → Files
after_crash left = record { placed = true; doubt = false; files = map certain_file left }
