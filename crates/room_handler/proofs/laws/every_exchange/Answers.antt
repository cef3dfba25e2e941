use Rattle.room_handler.proofs.SeesOn.{exchanges_see_on}
use Rattle.room_handler.proofs.laws.every_exchange.Goals as goal

pub returns : goal.returns
returns g c = exchanges_see_on g.N.RoomName.opening
