use Rattle.canvas_threads_tests.proofs.runs.ended.Given as goal

-- the room that was just made
abbrev pub ghosts-ended_in : goal.ghosts-ended_in
ghosts-ended_in g a = record { book = a.blank.book; opening = a.blank.opening }
