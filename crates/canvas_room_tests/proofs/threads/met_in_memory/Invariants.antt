use Rattle.canvas_room_tests.proofs.threads.met_in_memory.Given as goal

-- the room that was just made
abbrev pub ghosts-met_in : goal.ghosts-met_in
ghosts-met_in g a = record { book = a.blank.book; opening = a.blank.opening }
