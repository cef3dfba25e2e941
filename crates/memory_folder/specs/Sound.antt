-- Whether files are sound, as a test.
use Rattle.std.proofs.Common.{◌≡◌, ℕ, Bool, true, ◌&&◌, List, [], ◌∷◌, ◌++◌, length, take, drop, refl, sym, ◌∙◌, ap, take-append-drop}
use Rattle.std.specs.Prelude.{Option, Some, None}
use Rattle.std.proofs.lemmas.Bool.{and_parts, and_from}
use Rattle.std.proofs.Math.Seq.{take-append_seam}
use Rattle.canvas_folder.specs.Names.{same}
use Rattle.canvas_folder.specs.Files.{File, HasSynced, IsSoundFolder, is_new}
use Rattle.canvas_folder.specs.Sound.{same_is, same_self}

-- whether what was synced stands in front
abbrev pub has_synced : Option (List ℕ) → List ℕ → Bool
has_synced None bytes = true
has_synced (Some front) bytes = same front (take (length front) bytes)

-- whether a name is one file's, and what was synced of a file stands in front
abbrev pub is_sound : List File → Bool
is_sound [] = true
is_sound (f ∷ fs) = is_new f.name fs && (has_synced f.synced f.bytes && is_sound fs)

front_of : (synced : Option (List ℕ)) (bytes : List ℕ) → has_synced synced bytes ≡ true → HasSynced synced bytes
front_of None bytes here = tt
front_of (Some front) bytes here = record {
  rest = drop (length front) bytes;
  same = ap (λ (l : List ℕ). l ++ drop (length front) bytes) (same_is front (take (length front) bytes) here) ∙ take-append-drop (length front) bytes;
}

pub sound_of : (fs : List File) → is_sound fs ≡ true → IsSoundFolder fs
sound_of [] sound = tt
sound_of (f ∷ fs) sound =
    let first = and_parts (is_new f.name fs) (has_synced f.synced f.bytes && is_sound fs) sound in
    let second = and_parts (has_synced f.synced f.bytes) (is_sound fs) first.1 in
    (first.0, front_of f.synced f.bytes second.0, sound_of fs second.1)

test_of : (synced : Option (List ℕ)) (bytes : List ℕ) → HasSynced synced bytes → has_synced synced bytes ≡ true
test_of None bytes has = refl
test_of (Some front) bytes has =
    let is : take (length front) bytes ≡ front = ap (take (length front)) (sym has.same) ∙ take-append_seam front has.rest in
    ap (same front) is ∙ same_self front

pub sound_from : (fs : List File) → IsSoundFolder fs → is_sound fs ≡ true
sound_from [] sound = refl
sound_from (f ∷ fs) sound =
    and_from (is_new f.name fs) (has_synced f.synced f.bytes && is_sound fs) sound.0 (and_from (has_synced f.synced f.bytes) (is_sound fs) (test_of f.synced f.bytes sound.1) (sound_from fs sound.2))
