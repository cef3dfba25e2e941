use Rattle.std.proofs.Common.{map}
use Rattle.net_outbox.specs.Texts.{text_bytes}
use Rattle.room_handler.proofs.Shared.{copy_given}
use Rattle.room_handler.proofs.sharing.held_texts.Goals as goal

-- a copy, and an Idle
pub returns-in_ok-texts-in-Some-clause-gives : goal.returns-in_ok-texts-in-Some-clause-gives
returns-in_ok-texts-in-Some-clause-gives g c =
    let told = rw c.in-Some.is at c.in_ok-copy.ensures.copy in
    let texts = c.in_ok-texts-in-Some.ensures in
    copy_given g.N.RoomName.opening c.args.client c.args.version (map text_bytes c.in_ok-texts-in-Some.texts.items) c.args.seat.now c.held_copy.new.seat (text_bytes c.in-Some.copy) texts.0 c.held_copy.ensures.sees told.0 texts.1 texts.2
