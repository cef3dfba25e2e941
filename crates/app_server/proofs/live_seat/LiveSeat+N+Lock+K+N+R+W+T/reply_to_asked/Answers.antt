use Rattle.app_server.proofs.live_seat.LiveSeat+N+Lock+K+N+R+W+T.reply_to_asked.Goals as goal
use Rattle.std.proofs.Common.{refl}

-- what the seat gave; its place stays
pub returns-in-Ok-clause-gives : goal.returns-in-Ok-clause-gives
returns-in-Ok-clause-gives g c =
    let gives = c.in-Ok.ensures.gives in
    rw (← c.self.view_is) (gives.0, (gives.1, refl), gives.3)
