use Rattle.std.proofs.Common.{IsTrue, rules, subst}
use Rattle.canvas_journal.specs.Meaning.{IsCountedByEntries}
use Rattle.app_server.proofs.opening.room_of.Goals as goal

pub blank_room-requires-clause-kept : goal.blank_room-requires-clause-kept
blank_room-requires-clause-kept g c = rw c.new-keeper.ensures (λ honest.
    let was = subst IsTrue c.in-Ok.ensures.honest honest in
    let counted : IsCountedByEntries (c.in-Ok.opened.1, c.in-Ok.opened.2) = c.requires.counted was _ (c.in-Ok.ensures.found was) in
    record { keeps_is = record { at = c.in-Ok.ensures.keeps was counted; ready = c.in-Ok.ensures.staged; next = search rules }; found = c.in-Ok.ensures.kept was counted })
