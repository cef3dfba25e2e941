use Rattle.canvas_threads_tests.proofs.client_nodes.two_agree.Given as goal

-- the room that was just made
abbrev pub ghosts-agree_in : goal.ghosts-agree_in
ghosts-agree_in g a = record { book = a.blank.book; opening = a.blank.opening }
