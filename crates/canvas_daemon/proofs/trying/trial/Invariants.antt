use Rattle.canvas_daemon.proofs.trying.trial.Given as goal

-- the room that was just opened
abbrev pub ghosts-try_room : goal.ghosts-try_room
ghosts-try_room g a = record { book = a.room.book; opening = a.room.opening }
