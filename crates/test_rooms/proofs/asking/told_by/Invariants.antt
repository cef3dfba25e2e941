use Rattle.test_rooms.proofs.asking.told_by.Given as goal

-- the room that has no name yet
abbrev pub ghosts-told_under : goal.ghosts-told_under
ghosts-told_under g a = record { book = a.blank.book; opening = a.blank.opening }
