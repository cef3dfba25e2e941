use Rattle.std.proofs.Common.{[], arith}
use Rattle.room_handler_tests.proofs.rooms.RoomHandler.push.Goals as goal

-- nothing is told
pub returns-clause-tells : goal.returns-clause-tells
returns-clause-tells c = ([], 1, omega arith, tt, rw c.new.ensures.items tt, c.new-2.ensures.items)
