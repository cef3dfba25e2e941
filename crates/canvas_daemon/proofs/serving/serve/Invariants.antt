use Rattle.canvas_daemon.proofs.serving.serve.Given as goal

-- the room that was just opened
abbrev pub ghosts-serve_room : goal.ghosts-serve_room
ghosts-serve_room g a = record { book = a.room.book; opening = a.room.opening }
