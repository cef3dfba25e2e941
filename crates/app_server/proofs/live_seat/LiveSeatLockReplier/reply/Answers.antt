use Rattle.app_server.proofs.live_seat.LiveSeatLockReplier.reply.Goals as goal

-- what was judged ahead changes nothing that is seen
pub returns : goal.returns
returns g c = rw c.judge_ahead.ensures at c.reply_to.ensures
