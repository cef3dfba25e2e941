-- Which failure of a shelf is noted.
use Rattle.std.specs.Prelude.{◌≡◌, Option, None, Some}
use Rattle.disk_integrity.specs.declared.call.ShelfCall.{ShelfCall}

-- the first of the calls that failed, now that this one has
abbrev pub first_failed : Option ShelfCall → ShelfCall → Option ShelfCall
first_failed None call = Some call
first_failed (Some first) call = Some first

-- this call is noted where it failed, if none has failed before; else nothing is
pub record NotesFailure (call : ShelfCall) (before now : Option ShelfCall) (failed : Type 0) : Type 0 where
  pub first : failed → now ≡ first_failed before call
  pub same : (failed → ⊥) → now ≡ before
