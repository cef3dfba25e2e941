-- What contracts see of a room that isn't open.
use Rattle.std.specs.Prelude.{ℕ}
use Rattle.canvas_board.specs.Marks.{Opening}
use Rattle.logbook.specs.Pages.{Book}

-- a room that has no name yet: its keeper, what it opens with, its book, and for how many seats it is
pub record BlankRoomValue (K : Type 0) : Type 0 where
  pub keeper : K
  pub opening : Opening
  pub book : Book
  pub seats : ℕ
