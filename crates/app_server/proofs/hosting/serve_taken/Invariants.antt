use Rattle.app_server.proofs.hosting.serve_taken.Given as goal

-- the room that was just opened
abbrev pub ghosts-host : goal.ghosts-host
ghosts-host g a = record { book = a.room.book; opening = a.room.opening }
