use Rattle.room_handler_tests.proofs.connections.served.Given as goal

-- the room that was just made
abbrev pub ghosts-served_in : goal.ghosts-served_in
ghosts-served_in g a = record { book = a.blank.book; opening = a.blank.opening }
