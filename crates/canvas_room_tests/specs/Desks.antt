-- How desks are opened for tests.
use Rattle.canvas_model.specs.State as state
use Rattle.canvas_board.specs.Marks.{Opening}

-- no entry yet
abbrev pub first_opening : Opening
first_opening = record { state = state.opening; version = 0 }
