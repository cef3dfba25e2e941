use Rattle.test_hostile.proofs.rooms.hold.Given as goal

-- the room that was just made
abbrev pub ghosts-hold_in : goal.ghosts-hold_in
ghosts-hold_in g a = record { book = a.blank.book; opening = a.blank.opening }
