use Rattle.canvas_room_tests.specs.Desks.{first_opening}
use Rattle.canvas_room_tests.proofs.desks.answers.Given as goal

-- the room that was just made
abbrev pub ghosts-answers_under : goal.ghosts-answers_under
ghosts-answers_under g a = record { book = a.blank.seen.book; opening = first_opening }
