-- Who may do what.
use Rattle.std.specs.Prelude.{ℕ, Bool, true, false, ◌||◌, List, Option, Some, None, bytes_eq}
use Rattle.app_tokens.specs.declared.rights.Act.{Act}
use Rattle.app_tokens.specs.declared.rights.Act.TheVariants.{See, Change, Administer}
use Rattle.app_tokens.specs.declared.rights.Right.{Right}
use Rattle.app_tokens.specs.declared.rights.Right.TheVariants.{Read, Edit, Admin}

-- what a right allows
abbrev pub allows : Right → Act → Bool
allows Read See = true
allows Read Change = false
allows Read Administer = false
allows Edit See = true
allows Edit Change = true
allows Edit Administer = false
allows Admin See = true
allows Admin Change = true
allows Admin Administer = true

-- the owner is this user
abbrev pub is_owner : List ℕ → Option (List ℕ) → Bool
is_owner user None = false
is_owner user (Some owner) = bytes_eq owner user

-- a client's id may be used on the connection that joined it, and by the user to whom it was given
abbrev pub may_use : List ℕ → Option (List ℕ) → Bool → Bool
may_use user owner has_joined = has_joined || is_owner user owner
