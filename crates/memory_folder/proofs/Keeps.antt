-- Sound files stay sound, whichever call is made.
use Rattle.std.proofs.Common.{◌≡◌, ℕ, true, false, List, Result, Ok, Err, OnOk, OnErr}
use Rattle.std.specs.Prelude.{map}
use Rattle.canvas_folder.specs.Files.{File, Files, changed, made_in, file_with_more, file_as_synced, as_removed, as_sure}
use Rattle.canvas_folder.proofs.Keeping.{each_call}
use Rattle.memory_folder.specs.Sound.{is_sound, sound_of, sound_from}

-- whatever a call returned
pub either_way : {T E : Type 0} (r : Result T E) (A B C : Type 0) → OnOk r A → OnErr r B → (A → C) → (B → C) → C
either_way (Ok x) A B C ok err f g = f ok
either_way (Err e) A B C ok err f g = g err

abbrev certain : List File → Files
certain fs = record { placed = true; doubt = false; files = fs }

module _ (fs : List File) (sound : is_sound fs ≡ true) where
  pub kept_made : (N : List ℕ) → is_sound (made_in N fs) ≡ true
  kept_made N = sound_from (made_in N fs) ((each_call (certain fs) (sound_of fs sound)).made N)

  pub kept_appended : (N more : List ℕ) → is_sound (changed N (file_with_more more) fs) ≡ true
  kept_appended N more = sound_from (changed N (file_with_more more) fs) ((each_call (certain fs) (sound_of fs sound)).appended N more)

  pub kept_synced : (N : List ℕ) → is_sound (changed N file_as_synced fs) ≡ true
  kept_synced N = sound_from (changed N file_as_synced fs) ((each_call (certain fs) (sound_of fs sound)).synced N)

  pub kept_sure : is_sound (map as_sure fs) ≡ true
  kept_sure = sound_from (map as_sure fs) (each_call (certain fs) (sound_of fs sound)).names_synced

  pub kept_removed : (N : List ℕ) → is_sound (changed N as_removed fs) ≡ true
  kept_removed N = sound_from (changed N as_removed fs) ((each_call (certain fs) (sound_of fs sound)).removed N)
