use Rattle.room_handler_tests.proofs.exchanges.exchanges.Given as goal

-- the room that was just made
abbrev pub ghosts-exchanges_in : goal.ghosts-exchanges_in
ghosts-exchanges_in g a = record { book = a.blank.book; opening = a.blank.opening }
