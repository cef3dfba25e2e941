use Rattle.test_stops.proofs.plays.played_by.Given as goal

-- the room that was just made
abbrev pub ghosts-played_under : goal.ghosts-played_under
ghosts-played_under g a = record { book = a.blank.book; opening = a.blank.opening }
