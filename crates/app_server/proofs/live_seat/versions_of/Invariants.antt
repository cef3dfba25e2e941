use Rattle.std.proofs.Common.{◌≡◌, take, map}
use Rattle.room_handler.specs.Told.{seen_told}
use Rattle.canvas_turns.specs.Told.{version_told}
use Rattle.app_server.proofs.live_seat.versions_of.Given as goal

-- the versions of the messages so far
abbrev pub invariant-loop-message : goal.invariant-loop-message
invariant-loop-message l = l.versions.items ≡ map version_told (map seen_told (take l.message-index l.told))
