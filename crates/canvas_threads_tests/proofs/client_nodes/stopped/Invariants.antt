use Rattle.canvas_threads_tests.proofs.client_nodes.stopped.Given as goal

-- the room that was just made
abbrev pub ghosts-stopped_in : goal.ghosts-stopped_in
ghosts-stopped_in g a = record { book = a.blank.book; opening = a.blank.opening }
