use Rattle.rally.proofs.rallying.rally.Given as goal

-- the room that was just opened
abbrev pub ghosts-rally_room : goal.ghosts-rally_room
ghosts-rally_room g a = record { book = a.room.book; opening = a.room.opening }
